-- The value of a new $STANDARD_INFORMATION is 0 where the tree shows nothing of it.
use Rattle.std.proofs.Common.{◌≡◌, ◌&&◌, ◌||◌, ℕ, List, false, inl, inr, sym, ap, ◌∙◌, arith, nat_le, slice_index}
use Rattle.std.specs.Prelude.{nat_lt}
use Rattle.std.proofs.lemmas.Bool.{and_from, cases_lt, false≢true, le-leb, le-ltb, lt-ltb}
use Rattle.vol_bytes.specs.Field.{SameOutside}
use Rattle.session_def.specs.Kept.{is_shown_byte}

pub standard-zeros : (zero timed flagged value : List ℕ) → ((k : ℕ) → slice_index zero k ≡ 0) → SameOutside zero timed 0 0x20
    → SameOutside timed flagged 0x20 0x24 → SameOutside flagged value 0x34 0x38 → (k : ℕ) → is_shown_byte 72 k ≡ false
    → slice_index value k ≡ 0
standard-zeros zero timed flagged value zeros one two three k hidden =
    let id : (nat_lt k 0x24 || (nat_le 0x34 k && nat_lt k 0x38)) ≡ false = hidden in
    elim (cases_lt k 0x24) [
      | inl low ↦ absurd (false≢true (sym id ∙ ap (λ b. b || (nat_le 0x34 k && nat_lt k 0x38)) (lt-ltb k 0x24 low)))
      | inr from ↦
          let behind : slice_index flagged k ≡ 0 = two.above k from ∙ one.above k (omega (arith, from)) ∙ zeros k in
          elim (cases_lt k 0x34) [
            | inl before ↦ three.below k before ∙ behind
            | inr high ↦ elim (cases_lt k 0x38) [
              | inr above ↦ three.above k above ∙ behind
              | inl inside ↦
                  let rest : (nat_le 0x34 k && nat_lt k 0x38) ≡ false =
                  sym (ap (λ b. b || (nat_le 0x34 k && nat_lt k 0x38)) (le-ltb k 0x24 from)) ∙ id in
                  absurd (false≢true (sym rest ∙ and_from (nat_le 0x34 k) (nat_lt k 0x38) (le-leb 0x34 k high) (lt-ltb k 0x38 inside)))
            ]
          ]
    ]
