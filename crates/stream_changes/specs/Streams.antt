-- A STREAM THAT CAN BE EDITED, by the name and the bytes that it has; and one in clusters, in one part of a file without an attribute list.
use Rattle.std.specs.Prelude.{◌≡◌, ◌≢◌, ◌*◌, ◌<◌, ◌≤◌, ℕ, Bool, true, false, List, [], ◌∷◌, Option, None, Some, drop, slice_get, sum_by}
use Rattle.vol_disk.specs.declared.Disk.{Ghosts}
use Rattle.ntfs_def.specs.Attribute.{ExtentHeader}
use Rattle.ntfs_def.specs.Rounded.{clusters_for}
use Rattle.ntfs_def.specs.Runs.{clusters_of, total_clusters}
use Rattle.ntfs_def.specs.declared.kinds.TheConstants.{DATA}
use Rattle.ntfs_def.specs.declared.run_text.Run.{Run}
use Rattle.volume_def.specs.Files.{Clusters, Part, part_of, parts, parts_at, records_of}
use Rattle.volume_def.specs.Room.{free_bytes}
use Rattle.volume_def.specs.Table.{cluster_bytes}
use Rattle.volume_def.specs.View.{VolumeView}
use Rattle.mft_table.specs.HeldTables.{AreStored}
use Rattle.mft_table.specs.declared.mft.Mft.{Mft}
use Rattle.mft_table.specs.Mft.{mounted_of, view}
use Rattle.file_record.specs.Records.{IsRecordOf}
use Rattle.edit_def.specs.Purses.{run_size}
use Rattle.record_edits.specs.Given.{GivesBack}
use Rattle.extent_edits.specs.Cut.{CanBeCut, CutsExtent}
use Rattle.extent_edits.specs.Extended.{CanBeExtended, ExtendsExtent}
use Rattle.sparse_io.specs.declared.find.FoundStream.{FoundStream}
use Rattle.value_edits.specs.Below.{FindsPlain, IsInOneRecord, WritesOver}
use Rattle.value_edits.specs.ValueEdits.{PutsBytes}
use Rattle.tree_model.specs.Ways.{has_placed_bits}
use Rattle.stored_bits.specs.Given.{IsOfBits}
use Rattle.tree_edit.specs.Links.{CanWriteFile}
use Rattle.tree_edit.specs.Staged.{StagesFew}
use Rattle.tree_edit.specs.Write.{can_go_behind}
use Rattle.tree_edit.specs.declared.writable.Way.{Way}
use Rattle.tree_edit.specs.declared.writable.Way.TheVariants as way

-- File f can be edited, and the stream that was asked for by these units, in whichever case, has this name and shows these bytes.
pub record FindsNamed (view : VolumeView) (f : ℕ) : Type 0 where
  pub can : CanWriteFile view f
  pub asked : List ℕ
  pub name : List ℕ
  pub held : List ℕ
  pub finds : FindsPlain view f can.node asked name held

-- IT CAN GIVE ITS CLUSTERS BACK: what was found of it is its only part, an extent from its cluster 0 on. The file has no attribute list,
-- and the bitmap of clusters lies in clusters too.
pub record CanGive (view : VolumeView) (found : FoundStream) (f : ℕ) : Type 0 where
  pub named : FindsNamed view f
  pub one : IsInOneRecord view f
  pub part : Part
  pub at : slice_get (parts (records_of view) f) found.part ≡ Some part
  pub alone : parts_at view f DATA named.name ≡ part ∷ []
  pub extent : ExtentHeader
  pub runs : List Run
  pub is : part.content ≡ Clusters extent (Some runs)
  pub first : extent.sizes.first ≡ 0
  pub placed : has_placed_bits view ≡ true

-- BYTES CAN GO OVER those that were written of it, or right behind them: it needs no clusters but behind its last, and where it needs any,
-- there are as many free ones behind one another, and 24 bytes beside its record.
pub record CanReach (view : VolumeView) (found : FoundStream) (f at len : ℕ) : Type 0 where
  pub give : CanGive view found f
  pub goes : can_go_behind view f (parts_at view f DATA give.named.name) at len ≡ true

-- It ends within its last cluster, with so many bytes, more than it has.
pub record EndsInLast (view : VolumeView) (size : ℕ) (extent : ExtentHeader) (runs : List Run) : Type 0 where
  pub more : extent.sizes.real ≤ size
  pub last : clusters_for size (cluster_bytes view.layout) ≡ total_clusters runs

-- The extent of this part of file f goes on in the record that holds it, and nothing else of the volume changed; or it cannot go on so.
pub record ExtendsPart (old new : VolumeView) (f : ℕ) (part : Part) (real initialized : ℕ) (run : Option Run) : Type 0 where
  pub n : ℕ
  pub own : IsRecordOf old f n
  pub i : ℕ
  pub extends : ExtendsExtent old new n i real initialized run
  pub is : part_of n extends.was ≡ part

abbrev pub ExtendsPartWhereItCan : Bool → VolumeView → VolumeView → ℕ → Part → ℕ → ℕ → Option Run → Type 0
ExtendsPartWhereItCan true old new f part real initialized run = ExtendsPart old new f part real initialized run
ExtendsPartWhereItCan false old new f part real initialized run =
    CanBeExtended (cluster_bytes old.layout) run part.content
    → (run ≢ None) × ((n : ℕ) × IsRecordOf old f n × (part.holder ≡ n) × (free_bytes old n < 24))

-- CLUSTERS WERE GIVEN BACK, of these runs of a stream those behind its first `count` clusters.
pub record GivesBehind {D : Type 0} (g : Ghosts D) (old new : Mft D g) (runs : List Run) (count : ℕ) : Type 0 where
  pub given : List Run
  pub behind : clusters_of given ≡ drop count (clusters_of runs)
  pub gives : GivesBack (view g old) (view g new) given
  pub stored : AreStored (view g new) (mounted_of g new).clusters (mounted_of g new).records (mounted_of g new).upcase
  pub stages : StagesFew g (2 * sum_by run_size given) (IsOfBits (view g old)) old new

-- The extent of this part of file f was cut, in the record that holds it, and nothing else of the volume changed; or it cannot be cut so.
pub record CutsPart (old new : VolumeView) (f : ℕ) (part : Part) (size : ℕ) : Type 0 where
  pub n : ℕ
  pub own : IsRecordOf old f n
  pub i : ℕ
  pub cuts : CutsExtent old new n i size
  pub is : part_of n cuts.was ≡ part

abbrev pub CutsPartWhereItCan : Bool → VolumeView → VolumeView → ℕ → Part → ℕ → Type 0
CutsPartWhereItCan true old new f part size = CutsPart old new f part size
CutsPartWhereItCan false old new f part size = ¬ (CanBeCut (cluster_bytes old.layout) size part.content)

-- BYTES WERE WRITTEN into a stream that had these, this way: over bytes that lie in place, or else it has them then.
abbrev pub WritesSo : Way → ℕ → List ℕ → VolumeView → VolumeView → ℕ → List ℕ → List ℕ → List ℕ → ℕ → Type 0
WritesSo way.InPlace at bytes old new f name held times flags = WritesOver old new f name at bytes times flags
WritesSo way.InRecord at bytes old new f name held times flags = PutsBytes old new f name at bytes held times flags
WritesSo way.InClusters at bytes old new f name held times flags = PutsBytes old new f name at bytes held times flags
WritesSo way.IntoClusters at bytes old new f name held times flags = PutsBytes old new f name at bytes held times flags
