use Rattle.ntfs_def.specs.KeyOrder.{fold_of}
use Rattle.tree_model.specs.Paths.{links_in_order}
use Rattle.plain_tree.specs.Plain.{is_called, is_named, tree_of}
use Rattle.tree_model.specs.Tree.{is_in}
use Rattle.tree_model.proofs.LeastLaws.{least-both}
use Rattle.tree_model.proofs.LinkOrder.{link_order}
use Rattle.plain_tree.proofs.tree.PlainTree.first_named.Goals as goal

pub returns : goal.returns
unfolding links_in_order tree_of
returns c =
    let fold = fold_of c.args.self.now.case in
    let is_wanted = is_named fold c.args.dir c.args.name.now c.args.exact in
    let shown = c.first_among-shown.ensures in
    let all = c.first_among.ensures in
    let values = c.deref.ensures.value in
    let values_2 = c.deref-2.ensures.value in
    rw (all, shown, values, values_2)
    (least-both (link_order fold) (is_in c.args.dir) (λ link. is_called fold c.args.exact link.name c.args.name.now)
    c.args.self.now.links.items c.args.self.now.hidden.items)
