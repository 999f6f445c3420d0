-- A STREAM THAT IS A VALUE, of which bytes are to be punched, as a path leads to it, and the refusals in their order.
use Rattle.std.specs.Prelude.{◌≡◌, ◌&&◌, ℕ, not, Bool, true, List, Some, Result, Ok, Err, if◌then◌else◌, is_some, length, slice_get}
use Rattle.std.specs.Option.{option_map_or}
use Rattle.ntfs_def.specs.declared.kinds.TheConstants.{DATA}
use Rattle.volume_def.specs.Files.{Part, content_value, is_of, parts, records_of}
use Rattle.volume_def.specs.View.{VolumeView}
use Rattle.tree_model.specs.Cases.{is_wide}
use Rattle.tree_model.specs.Facts.{is_whole_table}
use Rattle.tree_model.specs.Paths.{and_then, found_file, resolve}
use Rattle.tree_model.specs.Reading.{read}
use Rattle.tree_model.specs.Shown.{stream_of}
use Rattle.tree_model.specs.Staging.{cannot_edit}
use Rattle.tree_model.specs.StreamRoom.{stream_parts, stream_value}
use Rattle.tree_model.specs.Tree.{node_of}
use Rattle.tree_model.specs.declared.opens.OpenEntry.{OpenEntry}
use Rattle.tree_model.specs.declared.reply.No.{No}
use Rattle.tree_model.specs.declared.reply.No.TheVariants as no
use Rattle.sparse_io.specs.declared.find.FoundStream.{FoundStream}
use Rattle.stream_overwrites.specs.Overwritten.{FindsPlain}
use Rattle.file_changes.specs.Links.{CanWriteFile}
use Rattle.tree_edit.specs.Writable.{IsFoundToEdit, kept_from_writing, named_in}
use Rattle.tree_edit.specs.declared.writable.Writable.{Writable}

-- The file can be edited, and its stream is a value.
abbrev pub can_punch : VolumeView → List ℕ → ℕ → Bool
can_punch view name file =
    not (cannot_edit (is_whole_table view) (read view) file)
    && is_some (stream_value (stream_parts view (read view) (named_in (read view) name file)))

abbrev pub if_value : VolumeView → List ℕ → ℕ → Result ℕ No
if_value view name file = if can_punch view name file then Ok file else Err no.Unbuilt

-- `punch`: THE NUMBER OF THE FILE that the path leads to, where its stream is a value
abbrev pub punch_ranged : VolumeView → List OpenEntry → List ℕ → ℕ → ℕ → ℕ → Result ℕ No
punch_ranged view opens name from len file =
    if is_wide from len then Err no.TooBig else option_map_or Err (kept_from_writing opens file) (if_value view name file)

abbrev pub punch_in : VolumeView → List OpenEntry → List ℕ → ℕ → ℕ → ℕ → Result ℕ No
punch_in view opens name from len file =
    and_then (stream_of (read view) name (node_of (read view) file)) (λ bytes. punch_ranged view opens name from len file)

abbrev pub punch_wanted : VolumeView → List OpenEntry → List (List ℕ) → List ℕ → ℕ → ℕ → Result ℕ No
punch_wanted view opens path name from len =
    and_then (resolve (read view) path) (λ found. punch_in view opens name from len (found_file found))

-- THE STREAM THAT WAS FOUND is a value of a file that can be edited.
abbrev pub IsPunchable : VolumeView → Writable → List ℕ → Type 0
IsPunchable view found name = IsFoundToEdit view found name (λ file. can_punch view name file)

-- A VALUE CAN BE PUNCHED: file f can be edited, and this part of it is the stream of this name, in bytes, which is a value of so many
-- bytes.
pub record CanPunch (view : VolumeView) (found : FoundStream) (f : ℕ) : Type 0 where
  pub can : CanWriteFile view f
  -- the units that were asked for, in whichever case, and the bytes that are shown
  pub asked : List ℕ
  pub name : List ℕ
  pub held : List ℕ
  pub finds : FindsPlain view f can.node asked name held
  pub part : Part
  pub at : slice_get (parts (records_of view) f) found.part ≡ Some part
  pub stream : is_of DATA name part ≡ true
  pub value : List ℕ
  pub value_is : content_value part.content ≡ Some value
  pub size : found.size ≡ length value
