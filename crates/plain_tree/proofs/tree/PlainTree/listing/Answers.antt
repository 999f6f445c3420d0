use Rattle.std.proofs.Common.{◌++◌, ap, ◌∙◌}
use Rattle.std.specs.List.{filter_map}
use Rattle.tree_model.specs.Answers.{ls_line, listing}
use Rattle.plain_tree.specs.Plain.{tree_of}
use Rattle.plain_tree.proofs.tree.PlainTree.listing.Goals as goal

pub links-init : goal.links-init
unfolding listing
links-init c =
    let tree = tree_of c.args.self.now in
    ap (λ done. done ++ filter_map (ls_line tree) c.as_slice-link-items.result.now) c.new-lines.ensures.items
    ∙ ap (filter_map (ls_line tree)) (c.as_slice-link-items.ensures.value ∙ c.in_ok-links.ensures.ok)
