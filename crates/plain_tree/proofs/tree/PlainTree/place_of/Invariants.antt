use Rattle.std.proofs.Common.{◌≡◌, ◌+◌, drop}
use Rattle.ntfs_def.specs.KeyOrder.{fold_of}
use Rattle.tree_model.specs.Tree.{link_above}
use Rattle.tree_model.proofs.PlaceLaws.{rank}
use Rattle.plain_tree.proofs.tree.PlainTree.place_of.Given as goal

abbrev pub invariant-links : goal.invariant-links
invariant-links l =
    l.place + rank (link_above (fold_of l.self.case)) l.link (drop l.place l.links) ≡ rank (link_above (fold_of l.self.case)) l.link l.links
