use Rattle.std.proofs.Common.{◌≡◌, ◌≤◌, drop, filter, length}
use Rattle.ntfs_def.specs.KeyOrder.{fold_of}
use Rattle.list_laws.specs.Ordered.{put_all}
use Rattle.tree_model.specs.Tree.{is_in, link_above}
use Rattle.plain_tree.proofs.tree.PlainTree.put_links_in.Given as goal

abbrev pub invariant-links : goal.invariant-links
invariant-links l =
    (l.left ≤ length l.links)
    × (l.all.items ≡ put_all (link_above (fold_of l.self.case)) (filter (is_in l.dir) (drop l.left l.links)) l.fn.others.items)

abbrev pub decreases-links : goal.decreases-links
decreases-links l = l.left
