use Rattle.std.proofs.Common.{◌≢◌, ◌<◌, ℕ, get_or}
use Rattle.tree_model.specs.declared.tree.Node.{Node}
use Rattle.plain_tree.proofs.tree.PlainTree.place_of_node.Given as goal

abbrev pub invariant-nodes : goal.invariant-nodes
invariant-nodes l = (k : ℕ) (other : ℕ × Node) → k < l.place → (get_or l.self.nodes.items k other).0 ≢ l.file
