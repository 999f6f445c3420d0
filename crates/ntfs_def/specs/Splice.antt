-- A record of which a part gave way to another: an attribute put in, taken out, or changed, while those behind it move.
use Rattle.std.specs.Prelude.{◌≡◌, ℕ, zero, suc, ◌+◌, ◌<◌, ◌≤◌, List, [], ◌∷◌, length, slice_index}
use Rattle.ntfs_def.specs.Fixup.{array_place, array_count}
use Rattle.ntfs_def.specs.Record.{allocated_size, first_place, used_size}
use Rattle.ntfs_def.specs.Attribute.{Attribute, attribute_at, attribute_len}
use Rattle.ntfs_def.specs.Shape.{IsWhole}

-- From `at` on, `was` bytes gave way to `now` bytes, and what stood behind them, up to the used size, follows these.
-- Of the header only those fields have to be as before that the shape asks for, and the used size tells of the change.
pub record IsSpliced (old new : List ℕ) (at was now : ℕ) : Type 0 where
  pub len : length new ≡ length old
  pub array : array_place new ≡ array_place old
  pub numbers : array_count new ≡ array_count old
  pub first : first_place new ≡ first_place old
  pub allocated : allocated_size new ≡ allocated_size old
  pub used : used_size new + was ≡ used_size old + now
  pub before : (k : ℕ) → first_place old ≤ k → k < at → slice_index new k ≡ slice_index old k
  pub behind : (i j : ℕ) → at + was ≤ i → i < used_size old → j + was ≡ i + now → slice_index new j ≡ slice_index old i

-- What stands at `at` in `now` bytes is no attribute, or one.
abbrev pub IsGiven : List ℕ → ℕ → ℕ → ℕ → Type 0
IsGiven new at zero now = now ≡ 0
IsGiven new at (suc more) now = (more ≡ 0) × IsWhole new at × (attribute_len new at ≡ now)

-- .. as a list
abbrev pub given_attributes : List ℕ → ℕ → ℕ → List Attribute
given_attributes new at zero = []
given_attributes new at (suc more) = attribute_at new at ∷ []
