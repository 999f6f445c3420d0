use Rattle.in_place.proofs.StillApart as laws
use Rattle.in_place.proofs.laws.clusters_apart.Goals as goal

pub returns : goal.returns
returns c = record { still = laws.apart-still; sound = laws.apart-sound }
