use Rattle.std.proofs.Common.{◌≡◌, ℕ, Bor, List, Option, Some, None, refl, sym, ap, ◌∙◌}
use Rattle.std.specs.Prelude.{is_some}
use Rattle.std.specs.Option.{option_copied}
use Rattle.attr_view.specs.View.{attribute_of}
use Rattle.tree_edit.proofs.FoundPunch.{value-not, value-so}
use Rattle.tree_edit.proofs.punchable.is_value.Goals as goal

pub returns-then-not-branch-clause-is : goal.returns-then-not-branch-clause-is
returns-then-not-branch-clause-is c = λ view mounts sound n name is.
    value-not view c.args.mounted.now c.args.held.now mounts sound n name c.args.stream.now is
    (sym c.in_ok-can_edit.ensures ∙ c.if-not-branch.true)

copied : (o : Option (Bor (List ℕ))) → is_some o ≡ is_some (option_copied o)
copied None = refl
copied (Some x) = refl

pub returns-clause-is : goal.returns-clause-is
returns-clause-is c = λ view mounts sound n name is.
    value-so view c.args.mounted.now c.args.held.now mounts sound n name c.args.stream.now is (attribute_of c.attr-attribute.result)
    c.attr-attribute.ensures.part c.look_at_names.ensures (sym c.in_ok-can_edit.ensures ∙ c.if-not-branch.false) c.is_some.result
    (c.is_some.ensures ∙ copied c.value.result ∙ ap (λ (o : Option (List ℕ)). is_some o) c.value.ensures)
