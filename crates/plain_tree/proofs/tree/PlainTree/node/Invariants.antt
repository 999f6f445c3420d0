use Rattle.std.proofs.Common.{◌≡◌, drop}
use Rattle.std.specs.FinMap.Entries.{find}
use Rattle.std.specs.Ordering.{nat_cmp}
use Rattle.plain_tree.specs.Plain.{tree_of}
use Rattle.tree_model.specs.Tree.{node_of}
use Rattle.plain_tree.proofs.tree.PlainTree.node.Given as goal

abbrev pub invariant-nodes : goal.invariant-nodes
invariant-nodes l = find nat_cmp l.file (drop l.number-index l.self.nodes.items) ≡ node_of (tree_of l.self) l.file
