-- A STREAM THAT IS A VALUE LEAVES ITS RECORD for clusters: where it can, the run that it takes, and what the calls leave.
-- Layout: Linux-NTFS documentation, "Attribute Headers" and concept "Data Runs"; Carrier, File System Forensic Analysis, chapters 11, 13.
use Rattle.std.specs.Prelude.{◌≡◌, ◌+◌, ◌<◌, ◌≤◌, ℕ, Bool, true, false, List, [], ◌∷◌, Some, length, slice_get}
use Rattle.ntfs_def.specs.Attribute.{Attribute, attributes}
use Rattle.ntfs_def.specs.Rounded.{clusters_for}
use Rattle.ntfs_def.specs.declared.kinds.TheConstants.{DATA}
use Rattle.ntfs_def.specs.declared.run_text.Run.{Run}
use Rattle.volume_def.specs.Files.{Part, Value, part_of, parts, parts_at, records_of}
use Rattle.volume_def.specs.Room.{free_bytes}
use Rattle.volume_def.specs.Table.{cluster_bytes}
use Rattle.volume_def.specs.View.{VolumeView}
use Rattle.file_record.specs.Attributes.{opened_record}
use Rattle.file_record.specs.Records.{IsRecordOf}
use Rattle.value_moves.specs.Moved.{CanBeMoved, MovesValue, moved_len}
use Rattle.sparse_io.specs.declared.find.FoundStream.{FoundStream}
use Rattle.value_edits.specs.Below.{IsInOneRecord}
use Rattle.moved_streams.specs.MovedStreams.{MovesStream}
use Rattle.tree_model.specs.Ways.{has_free_run, has_placed_bits}
use Rattle.tree_edit.specs.Below.{SetsAttributes}
use Rattle.stream_changes.specs.Reached.{IsRunOf, IsUnownedBy}
use Rattle.stream_changes.specs.Streams.{FindsNamed}

-- IT CAN LEAVE its record for as many clusters as so many bytes need: the file can be edited and has no attribute list; what was found of
-- the stream is its only part, a value without flags, and the record has the bytes of the extent that comes for it (72 and the name, where
-- 24 of a header go). As many clusters are free one behind the other, and the bitmap of clusters lies in clusters too.
pub record CanLeave (view : VolumeView) (found : FoundStream) (f size : ℕ) : Type 0 where
  pub named : FindsNamed view f
  pub one : IsInOneRecord view f
  pub part : Part
  pub at : slice_get (parts (records_of view) f) found.part ≡ Some part
  pub alone : parts_at view f DATA named.name ≡ part ∷ []
  pub is : part.content ≡ Value named.held
  pub flags : part.flags ≡ 0
  pub fits : 72 + length part.name ≤ length named.held + free_bytes view f
  pub free : has_free_run view (clusters_for size (cluster_bytes view.layout)) ≡ true
  pub placed : has_placed_bits view ≡ true

-- BYTES CAN GO INTO IT THEN, from within it or right behind it, and past its end.
pub record CanMove (view : VolumeView) (found : FoundStream) (f at len : ℕ) : Type 0 where
  pub leave : CanLeave view found f (at + len)
  pub begins : at ≤ length leave.named.held
  pub longer : length leave.named.held < at + len

-- .. OR IT CAN GET so many bytes, more than it has, which end in the last cluster that those fill.
pub record CanLengthen (view : VolumeView) (found : FoundStream) (f size : ℕ) : Type 0 where
  pub leave : CanLeave view found f size
  pub longer : length leave.named.held < size
  pub last : clusters_for size (cluster_bytes view.layout) ≡ clusters_for (length leave.named.held) (cluster_bytes view.layout)

-- A RUN of so many clusters that no attribute owns, by these flags of the clusters of a volume, and it alone as a list.
pub record IsFreeRun (flags : List Bool) (count : ℕ) (run : Run) (runs : List Run) : Type 0 where
  pub is : IsRunOf count run
  pub unowned : IsUnownedBy flags run
  pub alone : runs ≡ run ∷ []

-- The value of this part of file f moved so, in the record that holds it, and nothing else of the volume changed; ..
pub record MovesPart (old new : VolumeView) (f : ℕ) (part : Part) (run : Run) (real initialized : ℕ) : Type 0 where
  pub n : ℕ
  pub own : IsRecordOf old f n
  pub i : ℕ
  pub moves : MovesValue old new n i run real initialized
  pub is : part_of n moves.was ≡ part

-- .. or it is no value without flags, or its record lacks the bytes of the extent.
pub record CannotMovePart (view : VolumeView) (f : ℕ) (part : Part) : Type 0 where
  pub n : ℕ
  pub own : IsRecordOf view f n
  pub i : ℕ
  pub was : Attribute
  pub there : slice_get (attributes (opened_record view n)) i ≡ Some was
  pub is : part_of n was ≡ part
  pub lacks : CanBeMoved was → length was.bytes + free_bytes view n < moved_len was.name

abbrev pub MovesPartWhereItCan : Bool → VolumeView → VolumeView → ℕ → Part → Run → ℕ → ℕ → Type 0
MovesPartWhereItCan true old new f part run real initialized = MovesPart old new f part run real initialized
MovesPartWhereItCan false old new f part run real initialized = CannotMovePart old f part

-- THE STREAM LEFT ITS RECORD: these bytes were put into a run, of `real` that it has then, and then the file has these times and flags.
pub record LeavesRecord (old new : VolumeView) (f : ℕ) (name : List ℕ) (real : ℕ) (put times : List ℕ) (flags : ℕ) : Type 0 where
  pub mid : VolumeView
  pub i : ℕ
  pub run : Run
  pub moves : MovesStream old mid f i name run real put
  pub sets : SetsAttributes mid new f times flags
