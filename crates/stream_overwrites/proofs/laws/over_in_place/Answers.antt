use Rattle.stream_overwrites.proofs.OverInPlace.{over-in-place}
use Rattle.stream_overwrites.proofs.laws.over_in_place.Goals as goal

pub returns : goal.returns
returns c = over-in-place
