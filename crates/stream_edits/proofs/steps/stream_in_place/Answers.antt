use Rattle.stream_edits.proofs.StreamInPlace.{stream-put}
use Rattle.stream_edits.proofs.steps.stream_in_place.Goals as goal

pub returns : goal.returns
returns c = stream-put
