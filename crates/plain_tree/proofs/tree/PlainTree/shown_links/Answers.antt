use Rattle.std.proofs.Common.{◌≡◌, [], ap, arith, drop, filter, map, ◌∙◌}
use Rattle.tree_model.specs.Answers.{path_above, shown_link, shown_links}
use Rattle.list_laws.specs.Ordered.{put_all}
use Rattle.plain_tree.specs.Plain.{tree_of}
use Rattle.tree_model.specs.Tree.{leads_to}
use Rattle.tree_model.proofs.PlaceLaws.{in_order-put_all}
use Rattle.plain_tree.proofs.tree.PlainTree.shown_links.Goals as goal

pub returns-clause-ok : goal.returns-clause-ok
unfolding shown_links tree_of
returns-clause-ok c =
    let tree = tree_of c.args.self.now in
    let all = c.args.self.now.links.items in
    let none : c.links.left ≡ 0 = omega (arith, c.links-test.false) in
    c.from_vec.ensures
    ∙ c.links.invariant.1
    ∙ ap (λ n. put_all path_above (map (shown_link tree) (filter (leads_to c.args.file) (drop n c.as_slice-links.result.now))) []) none
    ∙ ap (λ links. put_all path_above (map (shown_link tree) (filter (leads_to c.args.file) links)) []) c.as_slice-links.ensures.value
    ∙ in_order-put_all path_above (map (shown_link tree) (filter (leads_to c.args.file) all))
