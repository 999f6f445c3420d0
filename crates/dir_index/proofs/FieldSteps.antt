-- Fields that are written one behind the other.
use Rattle.std.proofs.Common.{◌≡◌, ℕ, ◌+◌, ◌≤◌, List, [], ◌∷◌, length, get_or, refl, ◌∙◌, arith}
use Rattle.vol_bytes.specs.Field.{SameOutside, u32_at, u64_at}
use Rattle.vol_bytes.proofs.FieldLaws.{u32_at-same, u64_at-same}

-- a field that stands before what was written, and one that stands behind it
pub before : (old new : List ℕ) (from to at : ℕ) → SameOutside old new from to → at + 8 ≤ from → u64_at new at ≡ u64_at old at
before old new from to at same low = u64_at-same old new at (λ k low_k high. same.below k (omega (arith, low, high)))

pub behind : (old new : List ℕ) (from to at : ℕ) → SameOutside old new from to → to ≤ at → u32_at new at ≡ u32_at old at
behind old new from to at same high = u32_at-same old new at (λ k low_k up. same.above k (omega (arith, high, low_k)))

-- two writes, between these places
pub outside-twice : (old mid new : List ℕ) (from to from' to' low high : ℕ) → SameOutside old mid from to → SameOutside mid new from' to'
    → low ≤ from → low ≤ from' → to ≤ high → to' ≤ high → SameOutside old new low high
outside-twice old mid new from to from' to' low high first second a b c d = record {
  len = second.len ∙ first.len;
  below = λ k lt. second.below k (omega (arith, lt, b)) ∙ first.below k (omega (arith, lt, a));
  above = λ k ge. second.above k (omega (arith, ge, d)) ∙ first.above k (omega (arith, ge, c));
}

-- a list of four numbers
pub four : (xs : List ℕ) → length xs ≡ 4 → get_or xs 0 0 ∷ get_or xs 1 0 ∷ get_or xs 2 0 ∷ get_or xs 3 0 ∷ [] ≡ xs
four (a ∷ b ∷ c ∷ d ∷ []) len = refl
four (a ∷ b ∷ c ∷ d ∷ e ∷ xs) len = absurd (omega (arith, len))
four (a ∷ b ∷ c ∷ []) len = absurd (omega (arith, len))
four (a ∷ b ∷ []) len = absurd (omega (arith, len))
four (a ∷ []) len = absurd (omega (arith, len))
four [] len = absurd (omega (arith, len))

pub same_four : {a b c d p q r s : ℕ} → a ≡ p → b ≡ q → c ≡ r → d ≡ s → a ∷ b ∷ c ∷ d ∷ [] ≡ p ∷ q ∷ r ∷ s ∷ []
same_four e f g h = cc
