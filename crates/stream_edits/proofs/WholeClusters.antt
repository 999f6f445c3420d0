-- THE WHOLE CLUSTERS BETWEEN two bytes of a stream.
use Rattle.std.proofs.Common.{◌≡◌, ◌<◌, ◌≤◌, ◌+◌, ◌-◌, ◌*◌, ◌/◌, ◌⊎◌, ◌&&◌, ℕ, true, false, refl, inl, inr, arith}
use Rattle.std.specs.Prelude.{nat_le, nat_lt}
use Rattle.std.proofs.Math.Nat.{div-lt_iff_lt-mul, div-mul-le_self, le-div_iff_mul-le, lt-div-mul-add}
use Rattle.std.proofs.lemmas.Bool.{cases_lt, le-leb, lt-ltb}
use Rattle.std.proofs.lemmas.Bool.Decides.{nat_tests}

-- the first cluster that begins at a byte or behind it
abbrev pub first_whole : ℕ → ℕ → ℕ
first_whole size at = (at + (size - 1)) / size

pub begins-behind : (size at vcn : ℕ) → 0 < size → at ≤ vcn * size → first_whole size at ≤ vcn
begins-behind size at vcn some h =
    let below : first_whole size at < vcn + 1 = (div-lt_iff_lt-mul some).1 (omega (arith, some, h)) in omega (arith, below)

pub begins-whole : (size at vcn : ℕ) → 0 < size → first_whole size at ≤ vcn → at ≤ vcn * size
begins-whole size at vcn some h = elim (cases_lt (vcn * size) at) as (λ _. at ≤ vcn * size) [
  | inl l ↦
      let above : vcn + 1 ≤ first_whole size at = (le-div_iff_mul-le some).1 (omega (arith, some, l)) in
      absurd (omega (arith, above, h))
  | inr g ↦ g
]

pub ends-before : (size at vcn : ℕ) → 0 < size → vcn * size + size ≤ at → vcn < at / size
ends-before size at vcn some h =
    let above : vcn + 1 ≤ at / size = (le-div_iff_mul-le some).1 (omega (arith, h)) in omega (arith, above)

-- a byte of them is between
pub is-between : (size low high i : ℕ) → 0 < size → first_whole size low ≤ i / size → i / size < high / size → (low ≤ i) × (i < high)
is-between size low high i some g l =
    let begin = begins-whole size low (i / size) some g in
    let next : i / size + 1 ≤ high / size = omega (arith, l) in
    let end : (i / size + 1) * size ≤ high = (le-div_iff_mul-le some).0 next in
    let here = lt-div-mul-add {a = i} {b = size} some in
    (omega (arith, begin, div-mul-le_self i size), omega (arith, end, here))

-- a byte of a range is in its clusters
pub in-clusters : (size at end to i : ℕ) → 0 < size → at ≤ i → i < end → end ≤ to * size → (at / size ≤ i / size) × (i / size < to)
in-clusters size at end to i some low high few = (
  (le-div_iff_mul-le some).1 (omega (arith, low, div-mul-le_self at size)),
  (div-lt_iff_lt-mul some).1 (omega (arith, high, few)),
)

pub range-true : (at to i : ℕ) → at ≤ i → i < to → (nat_le at i && nat_lt i to) ≡ true
range-true at to i l h = rw (le-leb at i l, lt-ltb i to h) refl

pub range-false : (at to i : ℕ) → (i < at) ⊎ (to ≤ i) → (nat_le at i && nat_lt i to) ≡ false
range-false at to i h = grind (arith, nat_tests)
