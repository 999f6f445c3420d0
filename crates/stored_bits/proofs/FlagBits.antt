-- A FLAG SET OR CLEARED in bytes: the bit of its byte, by the mask that code makes.
use Rattle.std.proofs.Common.{◌≡◌, ◌≢◌, ◌-◌, ◌*◌, ◌/◌, ◌%◌, ◌^◌, ◌<◌, ◌==◌, ℕ, Bool, List, bit_and, bit_or, get_or, inl, inr, length, set}
use Rattle.std.proofs.Common.{sym, w8, ◌∙◌, arith}
use Rattle.std.specs.Int.{bit_at}
use Rattle.std.proofs.lemmas.Bool.{cases_eq}
use Rattle.std.proofs.lemmas.List.FromFn.{get_or-map-range_with_len}
use Rattle.std.proofs.lemmas.Nat.Bits.{bit_at_clear_other, bit_at_clear_same, bit_at_set_other, bit_at_set_same}
use Rattle.list_laws.specs.Bits.{bit_in, flags_in}
use Rattle.list_laws.proofs.BitLaws.{bit_in-place, bit_in-set_here, bit_in-set_other}

-- a flag of those that bytes hold
pub flag-at : (bytes : List ℕ) (count k : ℕ) (d : Bool) → k < count → get_or (flags_in bytes count) k d ≡ (bit_in bytes k == 1)
unfolding flags_in
flag-at bytes count k d lt = get_or-map-range_with_len (λ at. bit_in bytes at == 1) 0 count k k d lt (omega arith)

-- THE BYTE AT A FLAG put to another: its bits alone change, where only one of them does, as it should.
module _ (bytes : List ℕ) (flag byte : ℕ) (inside : flag < 8 * length bytes) where
  put-here : (bit : ℕ) → bit_at byte (flag % 8) ≡ bit → bit_in (set bytes (flag / 8) byte) flag ≡ bit
  put-here bit e = bit_in-set_here bytes (flag / 8) byte (flag % 8) flag (omega arith) (omega arith) (omega arith) ∙ e

  put-other : ((i : ℕ) → i < 8 → i ≢ flag % 8 → bit_at byte i ≡ bit_at (get_or bytes (flag / 8) 0) i) → (k : ℕ) → k ≢ flag
      → bit_in (set bytes (flag / 8) byte) k ≡ bit_in bytes k
  put-other same k other = elim (cases_eq (k / 8) (flag / 8)) [
    | inl e ↦
        let apart : k % 8 ≢ flag % 8 = λ is. other (omega arith) in
        bit_in-set_here bytes (flag / 8) byte (k % 8) k (omega arith) (omega arith) (omega arith)
        ∙ same (k % 8) (omega arith) apart
        ∙ sym (bit_in-place bytes (flag / 8) (k % 8) k (omega arith) (omega arith))
    | inr ne ↦ bit_in-set_other bytes (flag / 8) byte k ne
  ]

-- the byte without the bit
abbrev pub cleared : List ℕ → ℕ → ℕ
cleared bytes flag = bit_and (get_or bytes (flag / 8) 0) (255 - 1 * 2 ^ (flag % 8) % 256)

pub cleared-here : (bytes : List ℕ) (flag : ℕ) → flag < 8 * length bytes → bit_in (set bytes (flag / 8) (cleared bytes flag)) flag ≡ 0
cleared-here bytes flag inside =
    put-here bytes flag (cleared bytes flag) inside 0 (bit_at_clear_same w8 (get_or bytes (flag / 8) 0) (flag % 8) (omega arith))

pub cleared-other : (bytes : List ℕ) (flag k : ℕ) → flag < 8 * length bytes → k ≢ flag
    → bit_in (set bytes (flag / 8) (cleared bytes flag)) k ≡ bit_in bytes k
cleared-other bytes flag k inside other =
    put-other bytes flag (cleared bytes flag) inside
    (λ i low apart. bit_at_clear_other w8 (get_or bytes (flag / 8) 0) (flag % 8) (omega arith) i low apart) k other

-- the byte with it
abbrev pub raised : List ℕ → ℕ → ℕ
raised bytes flag = bit_or (get_or bytes (flag / 8) 0) (1 * 2 ^ (flag % 8) % 256)

pub raised-here : (bytes : List ℕ) (flag : ℕ) → flag < 8 * length bytes → bit_in (set bytes (flag / 8) (raised bytes flag)) flag ≡ 1
raised-here bytes flag inside =
    put-here bytes flag (raised bytes flag) inside 1 (bit_at_set_same w8 (get_or bytes (flag / 8) 0) (flag % 8) (omega arith))

pub raised-other : (bytes : List ℕ) (flag k : ℕ) → flag < 8 * length bytes → k ≢ flag
    → bit_in (set bytes (flag / 8) (raised bytes flag)) k ≡ bit_in bytes k
raised-other bytes flag k inside other =
    put-other bytes flag (raised bytes flag) inside
    (λ i low apart. bit_at_set_other w8 (get_or bytes (flag / 8) 0) (flag % 8) (omega arith) i apart) k other
