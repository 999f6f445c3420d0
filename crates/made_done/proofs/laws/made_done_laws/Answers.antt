use Rattle.made_done.proofs.Leaves.{leaves}
use Rattle.made_done.proofs.laws.made_done_laws.Goals as goal

pub returns : goal.returns
returns c = record { leaves = leaves }
