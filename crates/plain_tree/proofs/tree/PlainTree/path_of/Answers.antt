use Rattle.std.proofs.Common.{◌-◌, ◌++◌, [], ◌∷◌, ap, append_assoc, sym, ◌∙◌}
use Rattle.tree_model.specs.Answers.{path_to}
use Rattle.plain_tree.specs.Plain.{lent, tree_of}
use Rattle.plain_tree.proofs.PlainLaws.{path-up}
use Rattle.plain_tree.proofs.tree.PlainTree.path_of.Goals as goal

pub steps-preserved : goal.steps-preserved
steps-preserved c =
    let tree = tree_of c.args.self.now in
    let up = c.in-Some.up.now in
    let before = path_to tree (c.steps.left - 1) up.parent in
    ap (λ names. before ++ names) (c.in_ok-insert.ensures.items ∙ ap (λ name. name ∷ c.steps.names.items) c.in_ok-copied_name-2.ensures.ok)
    ∙ sym (append_assoc before (up.name ∷ []) c.steps.names.items)
    ∙ ap (λ path. path ++ c.steps.names.items)
    (sym (path-up tree c.steps.left c.steps.dir up c.steps-test.true c.if-dir-eq-ROOT.false
    (sym c.first_name.ensures ∙ ap lent c.in-Some.is)))
    ∙ c.steps.invariant
