-- The streams of a file as they are held: what is kept of each, and what that tells of the streams of the tree.
use Rattle.std.specs.Prelude.{◌≡◌, ℕ, ◌+◌, Bool, List, [], ◌∷◌, IsTrue, Option, Some, None, slice_get, if◌then◌else◌}
use Rattle.std.specs.Ordering.{is_lt}
use Rattle.ntfs_def.specs.Flags.{is_packed as has_packed_flags}
use Rattle.ntfs_def.specs.KeyOrder.{compare_units}
use Rattle.ntfs_def.specs.Units.{units_in}
use Rattle.volume_def.specs.CaseClause.{case_parts, volume_fold}
use Rattle.volume_def.specs.Files.{Part}
use Rattle.volume_def.specs.Readable.{IsFile, IsReadableVolume}
use Rattle.volume_def.specs.StreamSize.{real_size}
use Rattle.volume_def.specs.Values.{value_on}
use Rattle.volume_def.specs.View.{VolumeView}
use Rattle.tree_model.specs.Cases.{is_packed, size_of}
use Rattle.tree_model.specs.Reading.{begins_stream, stream_at, streams_of}
use Rattle.tree_model.specs.Tree.{sought_stream}
use Rattle.tree_model.specs.declared.tree.Stream.{Stream}
use Rattle.attr_store.specs.FileParts.{FileParts}
use Rattle.attr_store.specs.Held.{AreParts, file_number, parts_held}
use Rattle.sparse_io.specs.declared.find.FoundStream.{FoundStream}
use Rattle.sparse_io.specs.declared.held.HeldStream.{HeldStream}

-- A volume whose files can be read, and its table of case.
pub record IsReadableWith (view : VolumeView) (table : List ℕ) : Type 0 where
  pub readable : IsReadableVolume view
  pub case : table ≡ value_on view (case_parts view)

-- A file of a volume whose files can be read, held as the volume has it, and the volume's table of case.
pub record IsHeldWith (view : VolumeView) (table : List ℕ) (file : FileParts) : Type 0 where
  pub readable : IsReadableVolume view
  pub parts : AreParts view file
  pub is_file : IsFile view (file_number file)
  pub case : table ≡ value_on view (case_parts view)

-- the streams of a file that is held
abbrev pub streams_held : VolumeView → FileParts → List Stream
streams_held view file = streams_of view (parts_held file)

-- what is kept of a stream that begins with the part at this place
abbrev pub kept_at : ℕ → Part → HeldStream
kept_at place part = record {
  name = units_in part.name;
  part = place;
  packed = has_packed_flags part.kind part.flags;
  size = real_size part.content;
}

-- .. of all streams, in the order of the parts, of which the first stands at this place
abbrev pub kept_from : ℕ → List Part → List HeldStream
kept_from place [] = []
kept_from place (part ∷ parts) =
    if begins_stream part then kept_at place part ∷ kept_from (place + 1) parts else kept_from (place + 1) parts

-- The first stands behind the second by their names.
abbrev pub kept_above : (ℕ → ℕ) → HeldStream → HeldStream → Bool
kept_above fold x y = is_lt (compare_units fold y.name x.name)

-- THE STREAM OF A NAME, as it is held: the place of its first part, whether it is packed, and its real size in bytes.
pub record IsStream (view : VolumeView) (file : FileParts) (name : List ℕ) (found : FoundStream) : Type 0 where
  pub stream : Stream
  pub sought : sought_stream (volume_fold view) (streams_held view file) name ≡ Some stream
  pub part : Part
  pub at : slice_get (parts_held file) found.part ≡ Some part
  pub begins : IsTrue (begins_stream part)
  pub is : stream ≡ stream_at view (parts_held file) part
  pub packed : found.packed ≡ is_packed stream.content
  pub size : found.size ≡ size_of stream.content

-- The same, or there is none.
abbrev pub IsStreamIfThere : VolumeView → FileParts → List ℕ → Option FoundStream → Type 0
IsStreamIfThere view file name None = sought_stream (volume_fold view) (streams_held view file) name ≡ None
IsStreamIfThere view file name (Some found) = IsStream view file name found
