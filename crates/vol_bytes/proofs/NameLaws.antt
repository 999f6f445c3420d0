-- The text of a name, by its first character.
use Rattle.std.proofs.Common.{◌≡◌, ℕ, ◌<◌, ◌≤◌, List, [], ◌∷◌, ◌++◌, length, drop, get_or, true, false, refl, append-nil, sym, ◌∙◌, arith}
use Rattle.std.proofs.lemmas.List.{drop_all}
use Rattle.std.specs.Prelude.{encode_utf8}
use Rattle.std.specs.Char.Utf16.{surrogate_pair_char}
use Rattle.vol_bytes.specs.NameText.{are_pair, name_text, printed_unit}

-- two units that are one character stand in front
pub name_text-pair : (units : List ℕ) → 2 ≤ length units → are_pair (get_or units 0 0) (get_or units 1 0) ≡ true
    → name_text units ≡ encode_utf8 (surrogate_pair_char (get_or units 0 0) (get_or units 1 0)) ++ name_text (drop 2 units)
unfolding name_text
name_text-pair [] long pair = absurd (omega arith)
name_text-pair (unit ∷ []) long pair = absurd (omega arith)
name_text-pair (unit ∷ next ∷ units) long pair = rw pair refl

-- a unit that is not the first of a pair stands in front
pub name_text-unit : (units : List ℕ) → 0 < length units → (2 ≤ length units → are_pair (get_or units 0 0) (get_or units 1 0) ≡ false)
    → name_text units ≡ printed_unit (get_or units 0 0) ++ name_text (drop 1 units)
unfolding name_text
name_text-unit [] some lone = absurd (omega arith)
name_text-unit (unit ∷ []) some lone = sym (append-nil _)
name_text-unit (unit ∷ next ∷ units) some lone =
    let apart = lone (omega arith) in rw apart refl

-- when all units are printed
pub printed-all : (text units : List ℕ) (at : ℕ) → length units ≤ at
    → text ++ name_text (drop at units) ≡ name_text units → text ≡ name_text units
unfolding name_text
printed-all text units at done is = sym (append-nil text) ∙ rw (drop_all at units done) at is
