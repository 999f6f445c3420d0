use Rattle.stream_edits.proofs.PlacedSteps as laws
use Rattle.stream_edits.proofs.steps.placed_in_turn.Goals as goal

pub returns : goal.returns
returns c = record { none = laws.Places-none; turn = laws.Places-then; wider = laws.Places-wider }
