use Rattle.std.proofs.Common.{ap}
use Rattle.std.specs.Prelude.{is_some}
use Rattle.index_node.proofs.node_mut.NodeMut.remove_at.Goals as goal

pub invariant_of-self : goal.invariant_of-self
invariant_of-self c = record { shape = ap is_some (c.remove_at.ensures.ok.node c.requires.said c.requires.is) }
