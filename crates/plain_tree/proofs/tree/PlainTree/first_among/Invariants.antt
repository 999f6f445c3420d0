use Rattle.std.proofs.Common.{◌≡◌, drop, filter}
use Rattle.ntfs_def.specs.KeyOrder.{fold_of}
use Rattle.plain_tree.specs.Plain.{is_named, lent}
use Rattle.list_laws.specs.Ordered.{least}
use Rattle.tree_model.specs.Tree.{link_above}
use Rattle.plain_tree.proofs.tree.PlainTree.first_among.Given as goal

abbrev pub invariant-links : goal.invariant-links
invariant-links l =
    least (link_above (fold_of l.self.case)) (lent l.best) (filter (is_named (fold_of l.self.case) l.dir l.name l.exact)
    (drop l.link-index l.links))
    ≡ least (link_above (fold_of l.self.case)) (lent l.fn.best) (filter (is_named (fold_of l.self.case) l.dir l.name l.exact) l.links)
