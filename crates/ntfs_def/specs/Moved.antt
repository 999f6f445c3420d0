-- Bytes that stand in another list, or at another place, as they are.
use Rattle.std.specs.Prelude.{◌≡◌, ℕ, ◌+◌, ◌<◌, ◌≤◌, List, length, slice_index}

-- `len` bytes from `from` on stand in the new list from `to` on
pub record IsMoved (old new : List ℕ) (from to len : ℕ) : Type 0 where
  pub same : (i j : ℕ) → from ≤ i → i < from + len → j + from ≡ i + to → slice_index new j ≡ slice_index old i
  pub inside : from + len ≤ length old
  pub there : to + len ≤ length new
