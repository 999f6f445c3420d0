use Rattle.record_edits.proofs.PlaceCalls.{stepped-list}
use Rattle.file_edits.proofs.StepLaws.{step-edit, step-list, step-shrunk}
use Rattle.file_edits.proofs.steps.record_steps.Goals as goal

pub returns : goal.returns
returns c = record { edited = step-edit; listed = step-list; shrunk = step-shrunk; written = stepped-list }
