use Rattle.std.proofs.Common.{arith, zero-add}
use Rattle.plain_tree.specs.Plain.{tree_of}
use Rattle.plain_tree.proofs.tree.PlainTree.shown_link_count.Goals as goal

pub links-init : goal.links-init
unfolding tree_of
links-init c = (zero-add _, omega arith)
