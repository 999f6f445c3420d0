-- A FILE WHOSE SECURITY ID CAN BE SET, as a path leads to it, and the refusals in their order.
use Rattle.std.specs.Prelude.{◌≡◌, ◌⊎◌, ◌≤◌, ◌<◌, ◌&&◌, ℕ, not, Bool, false, true, List, [], Option, None, Some, Result, Ok, Err, find}
use Rattle.std.specs.Prelude.{length, slice_get}
use Rattle.std.specs.Prelude.{if◌then◌else◌}
use Rattle.ntfs_def.specs.declared.kinds.TheConstants.{STANDARD_INFORMATION}
use Rattle.volume_def.specs.Files.{Part, content_value, is_of, parts, records_of}
use Rattle.volume_def.specs.View.{VolumeView}
use Rattle.file_record.specs.declared.base.BaseFile.{BaseFile}
use Rattle.file_record.specs.declared.parts.FileParts.{FileParts}
use Rattle.file_record.specs.Held.{parts_held}
use Rattle.tree_model.specs.Facts.{IsVolumeOf, is_whole_table}
use Rattle.tree_model.specs.Paths.{and_then, found_file, resolve}
use Rattle.tree_model.specs.Reading.{read, standard_of}
use Rattle.tree_model.specs.Staging.{cannot_edit}
use Rattle.tree_model.specs.Ways.{has_place_for_id}
use Rattle.tree_model.specs.declared.reply.No.{No}
use Rattle.tree_model.specs.declared.reply.No.TheVariants as no
use Rattle.file_room.specs.Nodes.{number_of}
use Rattle.tree_edit.specs.Settable.{IsSettable}
use Rattle.file_changes.specs.Links.{CanWriteFile}
use Rattle.tree_edit.specs.declared.securable.Securable.{Securable}

-- The file can be edited, and its $STANDARD_INFORMATION has a place for an id.
abbrev pub can_secure : VolumeView → ℕ → Bool
can_secure view file = not (cannot_edit (is_whole_table view) (read view) file) && has_place_for_id view file

-- `setsec`: THE NUMBER OF THE FILE that the path leads to; `described` says whether the volume has a descriptor of the id.
abbrev pub secure_in : VolumeView → Bool → ℕ → Result ℕ No
secure_in view described file =
    if not described then Err no.NoSecurity else if can_secure view file then Ok file else Err no.Unbuilt

abbrev pub secure_wanted : VolumeView → Bool → List (List ℕ) → Result ℕ No
secure_wanted view described path = and_then (resolve (read view) path) (λ found. secure_in view described (found_file found))

-- ITS SECURITY ID CAN BE SET: file f can be edited, and this part of it is its $STANDARD_INFORMATION, with a place for an id.
pub record CanSecure (view : VolumeView) (f i : ℕ) : Type 0 where
  pub can : CanWriteFile view f
  pub part : Part
  pub at : slice_get (parts (records_of view) f) i ≡ Some part
  pub standard : is_of STANDARD_INFORMATION [] part ≡ true
  pub value : List ℕ
  pub value_is : content_value part.content ≡ Some value
  pub long : 72 ≤ length value

-- The file was found, with its times and flags.
pub record IsSecurable (view : VolumeView) (found : Securable) : Type 0 where
  pub settable : IsSettable view (record { number = found.number; times = found.times })
  pub secure : CanSecure view found.number found.part
  pub flags : found.flags ≡ settable.can.node.flags

-- The $STANDARD_INFORMATION of a file that is held stands at this place among its parts, with a place for an id; or it has none.
pub record HasPlaceAt (file : FileParts) (i : ℕ) : Type 0 where
  pub part : Part
  pub at : slice_get (parts_held file) i ≡ Some part
  pub first : find (is_of STANDARD_INFORMATION []) (parts_held file) ≡ Some part
  pub value : List ℕ
  pub value_is : content_value part.content ≡ Some value
  pub long : 72 ≤ length value

abbrev pub TellsPlace : FileParts → Option ℕ → Type 0
TellsPlace file None = length (standard_of (parts_held file)) < 72
TellsPlace file (Some i) = HasPlaceAt file i

-- Whether the id of a file that is held can be set was decided; on each image that tells this volume the file was found so. Memory may
-- want.
abbrev pub DecidesSecure : VolumeView → BaseFile → Result Securable No → Type 0
DecidesSecure view held (Ok found) =
    (can_secure view (number_of held) ≡ true) × (found.number ≡ number_of held)
    × ((bytes : List ℕ) → IsVolumeOf bytes view → IsSecurable view found)
DecidesSecure view held (Err refused) = ((can_secure view (number_of held) ≡ false) × (refused ≡ no.Unbuilt)) ⊎ (refused ≡ no.Memory)
