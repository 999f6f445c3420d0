use Rattle.std.proofs.Common.{refl}
use Rattle.plain_tree.specs.Plain.{tree_of}
use Rattle.plain_tree.proofs.tree.PlainTree.first_name.Goals as goal

pub links-init : goal.links-init
unfolding tree_of
links-init c = refl
