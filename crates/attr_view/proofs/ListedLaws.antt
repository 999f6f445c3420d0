-- A record with an attribute list, and one without.
use Rattle.std.proofs.Common.{◌≡◌, ◌≢◌, ◌==◌, ◌||◌, Bool, true, false, List, [], ◌∷◌, All, ap, inl, inr, refl, sym, ◌∙◌, true≢false}
use Rattle.std.specs.List.{list_any}
use Rattle.std.proofs.lemmas.Bool.{cases_Bool, eq-eqb, ne_eqb}
use Rattle.std.proofs.lemmas.List.Elements.{All-cons, All-head, All-nil, All-tail}
use Rattle.ntfs_def.specs.declared.kinds.TheConstants.{ATTRIBUTE_LIST}
use Rattle.ntfs_def.specs.Attribute.{Attribute}

abbrev pub is_list : Attribute → Bool
is_list attribute = attribute.kind == ATTRIBUTE_LIST

abbrev IsOther : Attribute → Type 0
IsOther attribute = attribute.kind ≢ ATTRIBUTE_LIST

abbrev rest-of : Bool → List Attribute → Bool
rest-of b attributes = b || list_any is_list attributes

pub others-alone : (attributes : List Attribute) → list_any is_list attributes ≡ false → All IsOther attributes
others-alone [] none = All-nil IsOther
others-alone (a ∷ attributes) none = elim (cases_Bool (is_list a)) [
  | inl listed ↦ absurd (true≢false (sym (ap (λ b. rest-of b attributes) listed) ∙ none))
  | inr other ↦
      All-cons IsOther a attributes (λ e. true≢false (sym (eq-eqb a.kind ATTRIBUTE_LIST e) ∙ other))
      (others-alone attributes (sym (ap (λ b. rest-of b attributes) other) ∙ none))
]

pub others-unlisted : (attributes : List Attribute) → All IsOther attributes → list_any is_list attributes ≡ false
others-unlisted [] others = refl
others-unlisted (a ∷ attributes) others =
    ap (λ b. rest-of b attributes) (ne_eqb a.kind ATTRIBUTE_LIST (All-head IsOther a attributes others))
    ∙ others-unlisted attributes (All-tail IsOther a attributes others)
