use Rattle.file_edits.proofs.MoveSteps.{stepped-moved}
use Rattle.file_edits.proofs.RecordGone.{stepped-freed}
use Rattle.file_edits.proofs.RecordSteps.{stepped-taken}
use Rattle.file_edits.proofs.steps.part_steps.Goals as goal

pub returns : goal.returns
returns c = record { moved = stepped-moved; taken = stepped-taken; freed = stepped-freed }
