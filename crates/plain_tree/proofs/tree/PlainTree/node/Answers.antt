use Rattle.std.proofs.Common.{sym}
use Rattle.std.specs.Cmp.{nat_cmp_total}
use Rattle.std.specs.FinMap.{get-from_entries}
use Rattle.plain_tree.specs.Plain.{tree_of}
use Rattle.plain_tree.proofs.tree.PlainTree.node.Goals as goal

pub nodes-init : goal.nodes-init
unfolding tree_of
nodes-init c = sym (get-from_entries nat_cmp_total c.args.self.now.nodes.items c.args.file)
