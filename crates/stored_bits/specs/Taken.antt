-- CLUSTERS THAT CAN BE TAKEN, since no attribute owns them, and the flags by which they are found.
use Rattle.std.specs.Prelude.{◌≡◌, ◌∷◌, ◌<◌, ◌≤◌, ℕ, Bool, [], List, Some}
use Rattle.ntfs_def.specs.declared.run_text.Run.{Run}
use Rattle.list_laws.specs.Bits.{flags_in}
use Rattle.volume_def.specs.BitmapClauses.{cluster_bits}
use Rattle.volume_def.specs.Coverage.{times_covered}
use Rattle.volume_def.specs.Files.{records_of}
use Rattle.volume_def.specs.OwnersClause.{times_owned}
use Rattle.volume_def.specs.Sound.{ClusterBits, Holds}
use Rattle.volume_def.specs.Values.{value_on}
use Rattle.volume_def.specs.View.{VolumeView}

-- THE RUN HAS A PLACE and a cluster; each of its clusters is one of the volume, and no attribute owns it.
pub record IsUnownedRun (view : VolumeView) (run : Run) : Type 0 where
  pub place : ℕ
  pub at : run.lcn ≡ Some place
  pub some : 0 < run.len
  pub inside : (c : ℕ) → 1 ≤ times_covered (run ∷ []) c → c < view.layout.clusters
  pub unowned : (c : ℕ) → 1 ≤ times_covered (run ∷ []) c → times_owned (records_of view) c ≡ 0

-- These are the flags of the clusters that the volume stores, which tell exactly of each cluster whether it has an owner.
pub record AreFlagsOf (view : VolumeView) (clusters : List Bool) : Type 0 where
  pub meets : Holds view ClusterBits
  pub stored : clusters ≡ flags_in (value_on view (cluster_bits view)) view.layout.clusters
