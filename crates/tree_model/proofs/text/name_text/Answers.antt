use Rattle.std.proofs.Common.{◌≡◌, ℕ, List, [], ◌∷◌, arith, length, refl, sym, ◌∙◌}
use Rattle.std.proofs.lemmas.Bool.{eqb-true}
use Rattle.vol_bytes.specs.NameText.{name_text}
use Rattle.tree_model.proofs.text.name_text.Goals as goal

text-none : (name : List ℕ) → length name ≡ 0 → name_text name ≡ []
unfolding name_text
text-none [] e = refl
text-none (unit ∷ units) e = absurd (omega (arith, e))

pub returns-then-is_empty-clause-ok : goal.returns-then-is_empty-clause-ok
returns-then-is_empty-clause-ok c =
    c.from_vec.ensures ∙ c.new.ensures.items
    ∙ sym (text-none c.args.name.now (eqb-true (length c.args.name.now) 0 (sym c.if-is_empty.ensures)))
