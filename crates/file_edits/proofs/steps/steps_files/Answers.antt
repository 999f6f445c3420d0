use Rattle.file_edits.proofs.StepFiles.{names-freed, names-moved, names-taken, names-written}
use Rattle.file_edits.proofs.steps.steps_files.Goals as goal

pub returns : goal.returns
returns c = record { moved = names-moved; taken = names-taken; freed = names-freed; written = names-written }
