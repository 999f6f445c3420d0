use Rattle.in_place_done.proofs.Leaves.{leaves}
use Rattle.in_place_done.proofs.laws.in_place_done_laws.Goals as goal

pub returns : goal.returns
returns c = record { leaves = leaves }
