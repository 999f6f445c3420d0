use Rattle.record_edits.proofs.PendingStates.{pending-from}
use Rattle.file_edits.proofs.StepLaws.{stepped-none}
use Rattle.file_edits.proofs.steps.steps_begun.Goals as goal

pub returns : goal.returns
returns c = record { ready = pending-from; begun = stepped-none }
