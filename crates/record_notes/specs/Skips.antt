-- Where the clusters of a stream lie, as far as it is noted, and how far those that are noted are passed over at once.
use Rattle.std.specs.Prelude.{◌≡◌, ◌≢◌, ◌+◌, ◌-◌, ◌<◌, ◌≤◌, ℕ, List, length, slice_index, slice_index_or}
use Rattle.ntfs_def.specs.declared.run_text.Run.{Run}
use Rattle.ntfs_def.specs.declared.run_text.Spot.{Spot}
use Rattle.ntfs_def.specs.declared.run_text.Spot.TheVariants.{Outside, Hole, At}
use Rattle.ntfs_def.specs.Runs.{spot_of}

-- what is noted of a cluster: `Outside` where nothing is, as of each one past the last place
abbrev pub noted_at : List Spot → ℕ → Spot
noted_at spots vcn = slice_index_or spots vcn Outside

-- Of each place it is told how many from it on are noted for sure: none exactly where it is not noted itself.
pub record AreSkips (spots : List Spot) (skips : List ℕ) : Type 0 where
  pub len : length skips ≡ length spots
  pub inside : (k : ℕ) → k < length skips → k + slice_index skips k ≤ length skips
  pub noted : (k j : ℕ) → j < slice_index skips k → noted_at spots (k + j) ≢ Outside
  pub vacant : (k : ℕ) → slice_index skips k ≡ 0 → noted_at spots k ≡ Outside

-- of two places for one cluster the first that there is
abbrev pub first_spot : Spot → Spot → Spot
first_spot Outside later = later
first_spot Hole later = Hole
first_spot (At cluster) later = At cluster

-- The clusters from `from` up to `end` that were not noted lie where these runs say, which begin with cluster `first` of the
-- stream. The others are as before.
pub record NotesRuns (old new : List Spot) (runs : List Run) (first from end : ℕ) : Type 0 where
  pub len : length new ≡ length old
  pub inside : (k : ℕ) → from ≤ k → k < end → noted_at new k ≡ first_spot (noted_at old k) (spot_of runs (k - first))
  pub before : (k : ℕ) → k < from → noted_at new k ≡ noted_at old k
  pub behind : (k : ℕ) → end ≤ k → noted_at new k ≡ noted_at old k
