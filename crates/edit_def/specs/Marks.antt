-- The bits in memory, and what stands between two calls of one command: the bits are right, the stored bitmaps may lag behind.
use Rattle.std.specs.Prelude.{◌≡◌, ℕ, ◌*◌, ◌<◌, ◌≤◌, nat_le, Bool, List, length, slice_get, Some, is_some}
use Rattle.ntfs_def.specs.declared.records.TheConstants.{FIRST_ORDINARY}
use Rattle.volume_def.specs.BitmapClauses.{HasNoHole, HasRecordBits, cluster_bits, record_bits, written_by}
use Rattle.volume_def.specs.Files.{record_on, records_of}
use Rattle.volume_def.specs.OwnersClause.{MeetsOwners, times_owned}
use Rattle.volume_def.specs.Readable.{IsReadableVolume}
use Rattle.volume_def.specs.Sound.{Holds}
use Rattle.volume_def.specs.Sound.{Version, MirrorPlace, Mirror}
use Rattle.volume_def.specs.Values.{IsPlain, first_part, value_on}
use Rattle.volume_def.specs.View.{VolumeView}
use Rattle.list_laws.specs.Bits.{flags_in}

-- the flags of clusters and of records that are kept in memory
pub record Marks : Type 0 where
  pub clusters : List Bool
  pub records : List Bool

-- They are exactly the owned clusters and, from record 24 on, the records in use.
pub record AreRight (view : VolumeView) (marks : Marks) : Type 0 where
  pub count : length marks.clusters ≡ view.layout.clusters
  pub taken : (c : ℕ) → c < view.layout.clusters → slice_get marks.clusters c ≡ Some (nat_le 1 (times_owned (records_of view) c))
  pub rows : length marks.records ≡ view.layout.count
  pub used : (n : ℕ) → FIRST_ORDINARY ≤ n → n < view.layout.count → slice_get marks.records n ≡ Some (is_some (record_on view n))

-- What the clauses on bitmaps say of the attributes that store them, whatever their bits.
pub record HasBitmaps (view : VolumeView) : Type 0 where
  pub plain : IsPlain (cluster_bits view)
  pub placed : HasNoHole (cluster_bits view)
  pub long : view.layout.clusters ≤ 8 * length (value_on view (cluster_bits view))
  pub written : view.layout.clusters ≤ 8 * written_by (first_part (cluster_bits view))
  pub records : HasRecordBits view

-- THE STATE BETWEEN CALLS: S3 to S7 and S14 hold, the bitmaps are there, and the bits in memory are right.
pub record IsEditable (view : VolumeView) (marks : Marks) : Type 0 where
  pub readable : IsReadableVolume view
  pub owners : (n : ℕ) → MeetsOwners (records_of view) view.layout.clusters n
  pub version : Holds view Version
  pub mirror_place : Holds view MirrorPlace
  pub mirror : Holds view Mirror
  pub bitmaps : HasBitmaps view
  pub right : AreRight view marks

-- The stored bitmaps show the bits in memory; a bit past the end is clear.
pub record StoresMarks (view : VolumeView) (marks : Marks) : Type 0 where
  pub clusters : marks.clusters ≡ flags_in (value_on view (cluster_bits view)) view.layout.clusters
  pub records : (n : ℕ) → FIRST_ORDINARY ≤ n → n < view.layout.count
      → slice_get marks.records n ≡ slice_get (flags_in (value_on view (record_bits view)) view.layout.count) n
