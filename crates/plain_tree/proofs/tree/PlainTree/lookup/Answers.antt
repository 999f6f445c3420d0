use Rattle.std.proofs.Common.{ap, find, sym, ◌∙◌}
use Rattle.std.specs.Option.{option_or}
use Rattle.ntfs_def.specs.KeyOrder.{fold_of}
use Rattle.tree_model.specs.Paths.{links_in_order}
use Rattle.plain_tree.specs.Plain.{lent, tree_of}
use Rattle.tree_model.specs.Tree.{are_same}
use Rattle.plain_tree.proofs.tree.PlainTree.lookup.Goals as goal

pub returns-in-None : goal.returns-in-None
unfolding tree_of
returns-in-None c =
    c.first_named-in-None.ensures
    ∙ ap
    (λ found. option_or found
    (find (λ link. are_same (fold_of c.args.self.now.case) link.name c.args.name.now)
    (links_in_order (tree_of c.args.self.now) c.args.dir)))
    (sym (ap lent c.in-None.is) ∙ c.first_named.ensures)
