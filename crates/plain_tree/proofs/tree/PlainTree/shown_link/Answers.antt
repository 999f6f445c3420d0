use Rattle.std.proofs.Common.{ℕ, List, ap, ◌∙◌}
use Rattle.plain_tree.specs.Plain.{tree_of}
use Rattle.tree_model.specs.declared.reply.ShownLink.{ShownLink}
use Rattle.plain_tree.proofs.tree.PlainTree.shown_link.Goals as goal

pub returns-clause-ok : goal.returns-clause-ok
unfolding tree_of
returns-clause-ok c =
    let made : List (List ℕ) → ShownLink = λ path. record { space = c.args.link.now.space; path = path } in
    ap made (c.from_vec.ensures ∙ c.in_ok-path.ensures.ok)
