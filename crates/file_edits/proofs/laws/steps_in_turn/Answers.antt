use Rattle.record_edits.proofs.PendingStates.{meets-none}
use Rattle.file_edits.proofs.StepLaws as laws
use Rattle.file_edits.proofs.laws.steps_in_turn.Goals as goal

pub returns : goal.returns
returns c = record {
  turn = laws.stepped-then;
  mended = laws.stepped-mended;
  whole = meets-none;
  edited = laws.edited-steps;
  ready = laws.ready-steps;
}
