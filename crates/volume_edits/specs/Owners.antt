-- The part that holds the table, and what a file has of clusters.
use Rattle.std.specs.Prelude.{◌≡◌, ◌≤◌, ℕ, [], Contains}
use Rattle.ntfs_def.specs.declared.kinds.TheConstants.{DATA}
use Rattle.ntfs_def.specs.declared.records.TheConstants.{MFT, MFT_MIRROR}
use Rattle.volume_def.specs.Coverage.{times_covered}
use Rattle.volume_def.specs.Files.{Part, part_runs, parts, parts_at, records_of}
use Rattle.volume_def.specs.Sound.{Holds, Owners}
use Rattle.volume_def.specs.VersionClause.{IsMirror}
use Rattle.volume_def.specs.View.{VolumeView}

-- The table lies where the unnamed $DATA of file 0 does, in one part.
pub record HasTablePart (view : VolumeView) : Type 0 where
  pub part : Part
  pub among : Contains (parts (records_of view) MFT) part
  pub data_is : part.kind ≡ DATA
  pub runs : part_runs part ≡ view.layout.runs

-- NO CLUSTER HAS TWO OWNERS: the clause on owners holds, the mirror lies where the boot sector says, and the table where the unnamed
-- $DATA of file 0 does. It holds while an edit of other attributes is under way, too.
pub record HasOwners (view : VolumeView) : Type 0 where
  pub owners : Holds view Owners
  pub mirror : IsMirror view (parts_at view MFT_MIRROR DATA [])
  pub table : HasTablePart view

-- A $DATA of file f covers the cluster.
pub record IsOwnPart (view : VolumeView) (f cluster : ℕ) : Type 0 where
  pub part : Part
  pub among : Contains (parts (records_of view) f) part
  pub data_is : part.kind ≡ DATA
  pub covered : 1 ≤ times_covered (part_runs part) cluster
