use Rattle.std.proofs.Common.{ap, filter, ◌∙◌}
use Rattle.ntfs_def.specs.KeyOrder.{fold_of}
use Rattle.list_laws.specs.Ordered.{put_all}
use Rattle.tree_model.specs.Paths.{links_in_order}
use Rattle.plain_tree.specs.Plain.{tree_of}
use Rattle.tree_model.specs.Tree.{is_in, link_above}
use Rattle.tree_model.proofs.PlaceLaws.{in_order-both}
use Rattle.plain_tree.proofs.tree.PlainTree.links_in_order.Goals as goal

pub returns-clause-ok : goal.returns-clause-ok
unfolding links_in_order tree_of
returns-clause-ok c =
    let above = link_above (fold_of c.args.self.now.case) in
    let links = c.args.self.now.links.items in
    let hidden = c.args.self.now.hidden.items in
    c.in_ok-all.ensures.ok
    ∙ ap (λ xs. put_all above (filter (is_in c.args.dir) xs) c.in_ok-hidden.hidden.items) c.as_slice-2.ensures.value
    ∙ ap (put_all above (filter (is_in c.args.dir) links))
    (c.in_ok-hidden.ensures.ok
    ∙ ap (λ xs. put_all above (filter (is_in c.args.dir) xs) c.new.result.items) c.as_slice.ensures.value
    ∙ ap (put_all above (filter (is_in c.args.dir) hidden)) c.new.ensures.items)
    ∙ in_order-both above (is_in c.args.dir) links hidden
