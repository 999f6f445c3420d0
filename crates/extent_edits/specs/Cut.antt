-- AN EXTENT THAT IS CUT: a stream in clusters, which one attribute holds from its cluster 0 on, ends earlier.
-- Layout: Linux-NTFS documentation, "Attribute Headers" and concept "Data Runs"; Carrier, File System Forensic Analysis, chapters 11, 13.
use Rattle.std.specs.Prelude.{◌≡◌, ◌*◌, ◌^◌, ◌<◌, ◌≤◌, ℕ, Bool, true, false, IsSomeAnd, List, Some, min, slice_get, sum_by, take}
use Rattle.std.specs.Option.{option_map}
use Rattle.ntfs_def.specs.Attribute.{Attribute, ExtentHeader, attributes}
use Rattle.ntfs_def.specs.Fixup.{opened_of}
use Rattle.ntfs_def.specs.Record.{Header, header_of}
use Rattle.ntfs_def.specs.Rounded.{clusters_for}
use Rattle.ntfs_def.specs.Runs.{clusters_of, total_clusters}
use Rattle.ntfs_def.specs.declared.run_text.Run.{Run}
use Rattle.volume_def.specs.ExtentsClause.{last_vcn_of}
use Rattle.volume_def.specs.Files.{Clusters, Content, content_of}
use Rattle.volume_def.specs.Table.{cluster_bytes}
use Rattle.volume_def.specs.View.{VolumeView}
use Rattle.volume_edits.specs.Rewritten.{RewritesRecord}
use Rattle.edit_def.specs.Forms.{form_of}
use Rattle.edit_def.specs.Purses.{run_size}
use Rattle.file_record.specs.Attributes.{opened_record}

-- The content is an extent from cluster 0 on, of a stream of `size` bytes at least, and its runs cover these, in clusters of so many bytes.
-- The bytes of the clusters that stay can be told in its header.
pub record CanBeCut (bytes size : ℕ) (content : Content) : Type 0 where
  pub extent : ExtentHeader
  pub runs : List Run
  pub is : content ≡ Clusters extent (Some runs)
  pub first : extent.sizes.first ≡ 0
  pub long : size ≤ extent.sizes.real
  pub covers : clusters_for size bytes ≤ total_clusters runs
  pub told : clusters_for size bytes * bytes < 2 ^ 64

-- IT ENDS behind so many bytes: the runs are those in front of its end, and its sizes tell that.
pub record IsCut (bytes size : ℕ) (was now : Content) : Type 0 where
  pub can : CanBeCut bytes size was
  pub extent : ExtentHeader
  pub runs : List Run
  pub is : now ≡ Clusters extent (Some runs)
  pub clusters : clusters_of runs ≡ take (clusters_for size bytes) (clusters_of can.runs)
  pub sizes : extent.sizes ≡ record {
    allocated = clusters_for size bytes * bytes;
    real = size;
    initialized = min can.extent.sizes.initialized size;
    first = 0;
    last = last_vcn_of (clusters_for size bytes);
  }
  pub compressed : extent.compressed ≡ option_map (λ old. sum_by run_size runs * bytes) can.extent.compressed

-- the header of a record stays, but that the next attribute id may rise
pub record KeepsRecord (was now : Header) : Type 0 where
  pub next : ℕ
  pub is : now ≡ record was { next_id = next }
  pub rises : was.next_id ≤ next

-- ATTRIBUTE i OF RECORD n WAS CUT so. Nothing else of the volume changed.
pub record CutsExtent (old new : VolumeView) (n i size : ℕ) : Type 0 where
  pub stored : List ℕ
  pub was : Attribute
  pub now : Attribute
  pub there : slice_get (attributes (opened_record old n)) i ≡ Some was
  pub edits : RewritesRecord old new n stored was now
  pub header : KeepsRecord (header_of (opened_record old n)) (header_of (opened_of stored))
  pub kind : now.kind ≡ was.kind
  pub name : now.name ≡ was.name
  pub id : now.id ≡ was.id
  pub flags : now.flags ≡ was.flags
  pub form : form_of now ≡ form_of was
  pub cut : IsCut (cluster_bytes old.layout) size (content_of was.body) (content_of now.body)

-- IT WAS CUT, OR CANNOT BE: then nothing changed.
abbrev pub CutsWhereItCan : Bool → VolumeView → VolumeView → ℕ → ℕ → ℕ → Type 0
CutsWhereItCan true old new n i size = CutsExtent old new n i size
CutsWhereItCan false old new n i size =
    IsSomeAnd (slice_get (attributes (opened_record old n)) i) (λ was. ¬ (CanBeCut (cluster_bytes old.layout) size (content_of was.body)))
    × (new ≡ old)
