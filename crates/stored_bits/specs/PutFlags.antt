-- FLAGS SET OR CLEARED in the stored bitmap of clusters, where it lies in clusters of its own, and in memory.
use Rattle.std.specs.Prelude.{◌≡◌, ◌⊎◌, ◌+◌, ◌*◌, ◌/◌, ◌<◌, ◌≤◌, ◌++◌, ℕ, Bool, List, Some, drop, false, replicate, slice_get, take}
use Rattle.ntfs_def.specs.Attribute.{ExtentHeader}
use Rattle.ntfs_def.specs.Flags.{is_packed}
use Rattle.ntfs_def.specs.declared.records.TheConstants.{CLUSTER_BITMAP}
use Rattle.list_laws.specs.Bits.{bit_in}
use Rattle.volume_def.specs.BitmapClauses.{HasNoHole, cluster_bits}
use Rattle.volume_def.specs.Coverage.{IsApart}
use Rattle.volume_def.specs.Files.{Part, content_extent}
use Rattle.volume_def.specs.Readable.{IsFile, IsReadableVolume}
use Rattle.volume_def.specs.Values.{first_part, spot_at, value_on}
use Rattle.volume_def.specs.View.{VolumeView}
use Rattle.volume_edits.specs.Clusters.{WritesStream}
use Rattle.volume_edits.specs.Owners.{HasOwners}
use Rattle.cluster_bitmap.specs.Words.{bit_for}
use Rattle.mft_table.specs.declared.mounted.Mounted.{Mounted}

-- THE BITMAP CAN BE WRITTEN IN PLACE: the files of the volume can be read, no cluster has two owners, and the bitmap lies in clusters,
-- without a hole, and was written as far as there are clusters.
pub record HasOwnBits (view : VolumeView) : Type 0 where
  pub readable : IsReadableVolume view
  pub is_file : IsFile view CLUSTER_BITMAP
  pub owners : HasOwners view
  pub apart : IsApart view.layout
  pub part : Part
  pub first : first_part (cluster_bits view) ≡ Some part
  pub plain : is_packed part.kind part.flags ≡ false
  pub extent : ExtentHeader
  pub told : content_extent part.content ≡ Some extent
  pub no_hole : HasNoHole (cluster_bits view)
  pub written : view.layout.clusters ≤ 8 * extent.sizes.initialized

-- THE FLAGS of so many clusters from one on were set, or cleared, and no other: bytes went over those of the bitmap that hold them.
pub record PutsFlags (value : Bool) (old new : VolumeView) (at len : ℕ) : Type 0 where
  pub bytes : List ℕ
  pub writes : WritesStream old new (spot_at (cluster_bits old)) (at / 8) bytes
  pub here : (c : ℕ) → at ≤ c → c < at + len → bit_in (value_on new (cluster_bits new)) c ≡ bit_for value
  pub others : (c : ℕ) → (c < at) ⊎ (at + len ≤ c)
      → bit_in (value_on new (cluster_bits new)) c ≡ bit_in (value_on old (cluster_bits old)) c

-- IN MEMORY the flags of a range are there, and each is so
abbrev pub AreAll : Bool → List Bool → ℕ → ℕ → Type 0
AreAll value flags at len = (k : ℕ) → at ≤ k → k < at + len → slice_get flags k ≡ Some value

-- the flags, with those of a range put to it, and the tables with them
abbrev pub with_put : Bool → List Bool → ℕ → ℕ → List Bool
with_put value flags at len = take at flags ++ (replicate len value ++ drop (at + len) flags)

abbrev pub with_clusters_put : Bool → Mounted → ℕ → ℕ → Mounted
with_clusters_put value mounted at len = record mounted { clusters = with_put value mounted.clusters at len }
