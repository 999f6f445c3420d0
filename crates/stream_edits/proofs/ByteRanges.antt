-- A byte inside a range, and one outside of it.
use Rattle.std.proofs.Common.{◌≡◌, ◌<◌, ◌≤◌, ◌&&◌, ◌⊎◌, ℕ, cond, refl, inl, inr, arith}
use Rattle.std.specs.Prelude.{nat_le, nat_lt, replicate, slice_index}
use Rattle.std.proofs.lemmas.Bool.{cases_lt, le-leb, lt-ltb}
use Rattle.std.proofs.lemmas.Bool.Decides.{nat_tests}
use Rattle.std.proofs.lemmas.List.{get_or-replicate, get_or_past, length-replicate}

pub in-range : (at to i x y : ℕ) → at ≤ i → i < to → cond (nat_le at i && nat_lt i to) x y ≡ x
in-range at to i x y l h = rw (le-leb at i l, lt-ltb i to h) refl

pub out-of-range : (at to i x y : ℕ) → (i < at) ⊎ (to ≤ i) → cond (nat_le at i && nat_lt i to) x y ≡ y
out-of-range at to i x y h = grind (arith, nat_tests)

-- a byte of a list of zeros, and past its end
pub zero-read : (n i : ℕ) → slice_index (replicate n 0) i ≡ 0
zero-read n i = elim (cases_lt i n) [
  | inl l ↦ get_or-replicate n i 0 0 l
  | inr g ↦ get_or_past (replicate n 0) i 0 (omega (arith, length-replicate {A = ℕ} n 0, g))
]
