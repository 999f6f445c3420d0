-- A number in a sorted list, by what stands beside it.
use Rattle.std.specs.Prelude.{◌≡◌, ◌≢◌, ℕ, ◌+◌, ◌-◌, ◌<◌, List, length, slice_index}

-- the number one below it stands before it, and none like it behind it
pub record IsBeside (orders : List ℕ) (i : ℕ) : Type 0 where
  pub some : 0 < i
  pub before : slice_index orders (i - 1) ≡ slice_index orders i - 1
  pub behind : i + 1 < length orders → slice_index orders (i + 1) ≢ slice_index orders i
