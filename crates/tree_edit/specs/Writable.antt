-- A STREAM THAT IS TO BE EDITED, found in a file that is held.
use Rattle.std.specs.Prelude.{◌≡◌, ◌⊎◌, ◌%◌, ◌<◌, ◌==◌, ◌&&◌, ◌||◌, ℕ, codes, not, Bool, true, false, List, Option, Some, None, Result, Ok}
use Rattle.std.specs.Prelude.{Err, find, is_some, length, option_map, slice_index, Contains, if◌then◌else◌}
use Rattle.ntfs_def.specs.StandardInformation.{standard_times}
use Rattle.ntfs_def.specs.declared.kinds.TheConstants.{DATA}
use Rattle.volume_def.specs.Files.{Part}
use Rattle.volume_def.specs.Table.{cluster_bytes}
use Rattle.volume_def.specs.View.{VolumeView}
use Rattle.edit_def.specs.Kept.{AreTellable, key_of, told_of}
use Rattle.tree_model.specs.Cases.{AsksFor, conflicts, is_among, is_bad_stream_name}
use Rattle.tree_model.specs.Facts.{IsVolumeOf, is_whole_table}
use Rattle.tree_model.specs.Opens.{all_access, to_write}
use Rattle.tree_model.specs.Reading.{read, standard_flags, standard_of}
use Rattle.tree_model.specs.Staging.{cannot_edit}
use Rattle.tree_model.specs.StreamRoom.{goes_over, stream_parts}
use Rattle.tree_model.specs.Subjects.{Located, at_file, content_named, is_directory, with_stream}
use Rattle.tree_model.specs.Tree.{Tree}
use Rattle.tree_model.specs.declared.opens.OpenEntry.{OpenEntry}
use Rattle.tree_model.specs.declared.reply.No.{No}
use Rattle.tree_model.specs.declared.reply.No.TheVariants as no
use Rattle.tree_model.specs.declared.tree.Content.{Content}
use Rattle.tree_model.specs.declared.tree.Content.TheVariants.{Packed, Plain}
use Rattle.tree_model.specs.declared.tree.Node.{Node}
use Rattle.mft_table.specs.declared.mounted.Mounted.{Mounted}
use Rattle.mft_table.specs.InUse.{IsSoundVolume}
use Rattle.file_record.specs.declared.base.BaseFile.{BaseFile}
use Rattle.sparse_io.specs.declared.find.FoundStream.{FoundStream}
use Rattle.stream_overwrites.specs.Below.{IsThere}
use Rattle.file_room.specs.Nodes.{IsCaseOf, IsNodeHeld, number_of, parts_in}
use Rattle.file_room.specs.Parts.{IsPlainStream}
use Rattle.tree_edit.specs.Settable.{IsSettable}
use Rattle.tree_edit.specs.declared.writable.Way.{Way}
use Rattle.tree_edit.specs.declared.writable.Writable.{Writable}

-- The bytes of a stream that a write finds by its name; none where it is missing, and a write would make it.
abbrev pub content_to_write : Option Content → Result (Option (List ℕ)) No
content_to_write None = Ok None
content_to_write (Some (Packed size)) = Err no.Packed
content_to_write (Some (Plain bytes)) = Ok (Some bytes)

abbrev pub stream_to_write : Tree → List ℕ → Option Node → Result (Option (List ℕ)) No
stream_to_write tree name node =
    if not (is_some (content_named tree name node)) && is_bad_stream_name name then Err no.BadName
    else if (length name == 0) && is_directory node then Err no.IsDir
    else content_to_write (content_named tree name node)

-- what no unit is of the name of a stream
abbrev pub is_bad_stream_unit : ℕ → Bool
is_bad_stream_unit unit = (unit == 0) || is_among (codes "/:\\") unit

-- Why it is not written: an open of the file that does not share writing.
abbrev pub kept_from_writing : List OpenEntry → ℕ → Option No
kept_from_writing opens file =
    option_map (λ (entry : OpenEntry). no.Shared entry.session entry.handle) (find (conflicts (AsksFor to_write all_access) file) opens)

-- a stream of a file, by its number
abbrev pub named_in : Tree → List ℕ → ℕ → Located
named_in tree name file = with_stream tree name (at_file tree None file)

-- The file can be edited, and so many bytes from `from` on go over bytes of its stream.
abbrev pub can_write_over : VolumeView → List ℕ → ℕ → ℕ → ℕ → Bool
can_write_over view name from len file =
    not (cannot_edit (is_whole_table view) (read view) file)
    && goes_over (cluster_bytes view.layout) (stream_parts view (read view) (named_in (read view) name file)) from len

-- The stream was found, or is missing, or the refusal is the one that is due; memory may want.
abbrev pub FindsToWrite : Result (Option (List ℕ)) No → VolumeView → BaseFile → List ℕ → Result (Option FoundStream) No → Type 0
FindsToWrite wanted view held name (Ok None) = wanted ≡ Ok None
FindsToWrite wanted view held name (Ok (Some found)) = (is : IsPlainStream view held name found) × (wanted ≡ Ok (Some is.bytes))
FindsToWrite wanted view held name (Err refused) = (wanted ≡ Err refused) ⊎ (refused ≡ no.Memory)

-- The tables that are kept are those of the volume, and its bits and table of case, and its clusters have so many bytes.
pub record IsMountedAs (view : VolumeView) (mounted : Mounted) (size : ℕ) : Type 0 where
  pub bits : IsSoundVolume view mounted
  pub case : IsCaseOf view mounted.upcase
  pub whole : view.layout.initialized ≡ mounted.initialized
  pub count : view.layout.count ≡ length mounted.records
  pub size_is : size ≡ cluster_bytes view.layout

-- It is decided so, or memory ran out.
abbrev pub DecidesOver : Bool → Result Writable No → Type 0
DecidesOver over (Ok found) = over ≡ true
DecidesOver over (Err refused) = ((over ≡ false) × (refused ≡ no.Unbuilt)) ⊎ (refused ≡ no.Memory)

-- The names of these parts have two bytes a unit, each below 256.
abbrev pub AreNames : List Part → Type 0
AreNames all = (part : Part) → Contains all part → (length part.name % 2 ≡ 0) × ((k : ℕ) → slice_index part.name k < 256)

-- What was found is given back, to be edited this way, with the times and flags of the file.
pub record GivesBack (found : Writable) (held : BaseFile) (stream : FoundStream) (way : Way) : Type 0 where
  pub held_is : found.held ≡ held
  pub stream_is : found.stream ≡ stream
  pub way_is : found.way ≡ way
  pub times : found.times ≡ standard_times (standard_of (parts_in held))
  pub flags : found.flags ≡ standard_flags (standard_of (parts_in held))
  pub names : AreNames (parts_in held)

-- THE STREAM THAT WAS FOUND CAN BE EDITED, where this says so of its file: it is there, its file can be edited, is held, and these are its
-- times and flags; the names of its attributes can be told apart by their units.
pub record IsFoundToEdit (view : VolumeView) (found : Writable) (name : List ℕ) (can : ℕ → Bool) : Type 0 where
  pub settable : IsSettable view (record { number = number_of found.held; times = found.times })
  pub held : IsNodeHeld view found.held
  pub stream : IsPlainStream view found.held name found.stream
  pub there : IsThere view (key_of (number_of found.held) DATA stream.is.part.name)
  pub flags : found.flags ≡ settable.can.node.flags
  pub over : can (number_of found.held) ≡ true
  pub tellable : AreTellable (told_of view (number_of found.held))

-- What is wanted of a file that is held: it can be edited so on each image that tells this volume, or the refusal is due; memory may want.
abbrev pub DecidesEdit : (Way → ℕ → Bool) → Result ℕ No → VolumeView → BaseFile → List ℕ → Result Writable No → Type 0
DecidesEdit can wanted view held name (Ok found) =
    (wanted ≡ Ok (number_of held)) × (found.held ≡ held)
    × ((bytes : List ℕ) → IsVolumeOf bytes view → IsFoundToEdit view found name (can found.way))
DecidesEdit can wanted view held name (Err refused) = (wanted ≡ Err refused) ⊎ (refused ≡ no.Memory)
