use Rattle.stream_edits.proofs.ZerosAround.{zeros-around}
use Rattle.stream_edits.proofs.steps.zeros_around.Goals as goal

pub returns : goal.returns
returns c = zeros-around
