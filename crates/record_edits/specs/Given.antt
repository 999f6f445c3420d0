-- CLUSTERS GIVEN BACK in the stored bitmap of clusters, and clusters taken.
use Rattle.std.specs.Prelude.{◌≡◌, ℕ, ◌≤◌, List}
use Rattle.ntfs_def.specs.declared.run_text.Run.{Run}
use Rattle.list_laws.specs.Bits.{bit_in}
use Rattle.volume_def.specs.BitmapClauses.{cluster_bits, record_bits}
use Rattle.volume_def.specs.Coverage.{times_covered}
use Rattle.volume_def.specs.Files.{records_of}
use Rattle.volume_def.specs.OwnersClause.{times_owned}
use Rattle.volume_def.specs.Values.{value_on}
use Rattle.volume_def.specs.View.{VolumeView}
use Rattle.record_edits.specs.InPlace.{WritesInPlace, is_bits_key}

-- Attributes own the clusters of the runs, each as often as the runs have it.
abbrev pub AreOwned : VolumeView → List Run → Type 0
AreOwned view runs = (c : ℕ) → times_covered runs c ≤ times_owned (records_of view) c

-- THE FLAGS OF THE CLUSTERS OF THESE RUNS were cleared in the bitmap, where they lie, and all other flags are as they were.
pub record GivesBack (old new : VolumeView) (runs : List Run) : Type 0 where
  pub writes : WritesInPlace is_bits_key old new
  pub given : (c : ℕ) → 1 ≤ times_covered runs c → bit_in (value_on new (cluster_bits new)) c ≡ 0
  pub others : (c : ℕ) → times_covered runs c ≡ 0 → bit_in (value_on new (cluster_bits new)) c ≡ bit_in (value_on old (cluster_bits old)) c
  pub records : value_on new (record_bits new) ≡ value_on old (record_bits old)

-- .. were set in the bitmap, and all other flags are as they were.
pub record TakesRuns (old new : VolumeView) (runs : List Run) : Type 0 where
  pub writes : WritesInPlace is_bits_key old new
  pub taken : (c : ℕ) → 1 ≤ times_covered runs c → bit_in (value_on new (cluster_bits new)) c ≡ 1
  pub others : (c : ℕ) → times_covered runs c ≡ 0 → bit_in (value_on new (cluster_bits new)) c ≡ bit_in (value_on old (cluster_bits old)) c
  pub records : value_on new (record_bits new) ≡ value_on old (record_bits old)
