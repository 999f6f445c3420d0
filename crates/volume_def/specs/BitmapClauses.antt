-- The clauses on the bitmaps of clusters, S8, by the number of a cluster, and of records, S9, by the number of a record.
-- Layout: Linux-NTFS documentation, files $Bitmap and $MFT; Carrier, File System Forensic Analysis, chapter 11.
use Rattle.std.specs.Prelude.{◌≡◌, ℕ, ◌*◌, ◌<◌, ◌≤◌, ◌↔◌, List, [], length, All, IsSome, Option, Some, None}
use Rattle.ntfs_def.specs.declared.kinds.TheConstants.{BITMAP, DATA}
use Rattle.ntfs_def.specs.declared.records.TheConstants.{CLUSTER_BITMAP, FIRST_ORDINARY, MFT}
use Rattle.list_laws.specs.Bits.{bit_in}
use Rattle.volume_def.specs.Files.{Content, Clusters, Part, Value, content_extent, part_runs, record_on, records_of, parts_at, all_covered}
use Rattle.volume_def.specs.OwnersClause.{times_owned}
use Rattle.volume_def.specs.Values.{IsPlain, first_part, value_on}
use Rattle.volume_def.specs.Table.{cluster_bytes}
use Rattle.volume_def.specs.View.{VolumeView}

-- Its clusters all have a place.
abbrev pub HasNoHole : List Part → Type 0
HasNoHole extents = All (λ part. All (λ run. IsSome run.lcn) (part_runs part)) extents

-- the bytes that were written: of a value all
abbrev pub written_in : Content → ℕ
written_in (Value value) = length value
written_in (Clusters extent runs) = extent.sizes.initialized

abbrev pub written_by : Option Part → ℕ
written_by None = 0
written_by (Some part) = written_in part.content

-- the unnamed $DATA of $Bitmap
abbrev pub cluster_bits : VolumeView → List Part
cluster_bits view = parts_at view CLUSTER_BITMAP DATA []

-- The clause on the cluster bitmap: it has a bit for each cluster, set exactly where the cluster is owned.
pub record MeetsClusterBits (view : VolumeView) (n : ℕ) : Type 0 where
  pub plain : IsPlain (cluster_bits view)
  pub placed : HasNoHole (cluster_bits view)
  pub long : n < view.layout.clusters → n < 8 * length (value_on view (cluster_bits view))
  pub written : n < view.layout.clusters → n < 8 * written_by (first_part (cluster_bits view))
  pub bit : n < view.layout.clusters → (bit_in (value_on view (cluster_bits view)) n ≡ 1) ↔ (1 ≤ times_owned (records_of view) n)

-- the unnamed $BITMAP of $MFT
abbrev pub record_bits : VolumeView → List Part
record_bits view = parts_at view MFT BITMAP []

-- There is a bitmap of records in clusters, which have room for a bit for each record.
pub record HasRecordBits (view : VolumeView) : Type 0 where
  pub plain : IsPlain (record_bits view)
  pub placed : HasNoHole (record_bits view)
  pub extents : All (λ part. IsSome (content_extent part.content)) (record_bits view)
  pub room : view.layout.count ≤ 8 * (all_covered (record_bits view) * cluster_bytes view.layout)

-- The clause on the record bitmap: from record 24 on its bit is set exactly where the record is in use. A bit past the end
-- counts as clear.
pub record MeetsRecordBits (view : VolumeView) (n : ℕ) : Type 0 where
  pub bits : n ≡ FIRST_ORDINARY → HasRecordBits view
  pub bit : FIRST_ORDINARY ≤ n → n < view.layout.count → (bit_in (value_on view (record_bits view)) n ≡ 1) ↔ IsSome (record_on view n)
