use Rattle.std.proofs.Common.{drop}
use Rattle.tree_read.proofs.PathSteps.{IsWalked}
use Rattle.tree_read.proofs.walk.walk_down.Given as goal

abbrev pub invariant-names : goal.invariant-names
invariant-names g l = IsWalked g.D.Disk l.fn.mft l.mft l.names l.dir (drop l.name-index l.names)
