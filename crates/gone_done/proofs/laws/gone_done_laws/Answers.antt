use Rattle.gone_done.proofs.Leaves.{leaves}
use Rattle.gone_done.proofs.laws.gone_done_laws.Goals as goal

pub returns : goal.returns
returns c = record { leaves = leaves }
