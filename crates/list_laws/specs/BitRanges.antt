-- Bits of bytes, over a range.
use Rattle.std.specs.Prelude.{◌≡◌, ◌≢◌, ℕ, ◌+◌, ◌<◌, ◌≤◌, List, length, slice_index, Option, Some, None, IfSome, unwrap_or}
use Rattle.std.specs.Int.{bit_at}
use Rattle.list_laws.specs.Bits.{bit_in}

-- The bits from `from` up to `end` were set, up to the first that was set before.
pub record Fills (old new : List ℕ) (from end : ℕ) (found : Option ℕ) : Type 0 where
  pub len : length new ≡ length old
  pub was_set : IfSome found (λ k. (from ≤ k) × (k < end) × (bit_in old k ≡ 1))
  pub was_clear : (k : ℕ) → from ≤ k → k < unwrap_or found end → bit_in old k ≡ 0
  pub set : (k : ℕ) → from ≤ k → k < unwrap_or found end → bit_in new k ≡ 1
  pub below : (k : ℕ) → k < from → bit_in new k ≡ bit_in old k
  pub above : (k : ℕ) → end ≤ k → bit_in new k ≡ bit_in old k

-- A bit was set, and the others are as before.
pub record SetsBit (old new : List ℕ) (k : ℕ) : Type 0 where
  pub len : length new ≡ length old
  pub here : bit_in new k ≡ 1
  pub others : (j : ℕ) → j ≢ k → bit_in new j ≡ bit_in old j

-- Bytes of a piece are those of a value from byte `from` on; zeros past its end.
abbrev pub IsPieceOf : List ℕ → ℕ → List ℕ → Type 0
IsPieceOf value from piece = (i : ℕ) → i < length piece → slice_index piece i ≡ slice_index value (from + i)

-- two bytes differ first in this bit
pub record DiffersFirst (a b k : ℕ) : Type 0 where
  pub low : k < 8
  pub here : bit_at a k ≢ bit_at b k
  pub below : (j : ℕ) → j < k → bit_at a j ≡ bit_at b j

-- the least number from `from` on and below `end` at which a fact fails, or `None` where it holds of each
abbrev pub IsLeastWithin : (ℕ → Type 0) → ℕ → ℕ → Option ℕ → Type 0
IsLeastWithin P from end None = (n : ℕ) → from ≤ n → n < end → P n
IsLeastWithin P from end (Some n) = (from ≤ n) × (n < end) × ¬ (P n) × ((m : ℕ) → from ≤ m → m < n → P m)
