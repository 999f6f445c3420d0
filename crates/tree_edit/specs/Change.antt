-- A VALUE that has other bytes then, or goes, of a file without an attribute list: what that asks for, and what the calls on its record
-- leave.
use Rattle.std.specs.Prelude.{◌≡◌, ◌+◌, ◌-◌, ◌||◌, ℕ, Bool, true, false, List, Contains, IsSomeAnd, Some, length, nat_le, slice_get}
use Rattle.std.specs.Option.{option_map_or}
use Rattle.ntfs_def.specs.Attribute.{value_of}
use Rattle.ntfs_def.specs.Record.{used_size}
use Rattle.attr_view.specs.Values.{attribute_in}
use Rattle.volume_def.specs.Files.{Part, content_value, part_of}
use Rattle.volume_def.specs.Room.{free_bytes}
use Rattle.volume_def.specs.View.{VolumeView}
use Rattle.file_record.specs.Attributes.{ChangesValue, RemovesAttribute}
use Rattle.file_record.specs.Held.{held_of, parts_held}
use Rattle.file_record.specs.Records.{IsRecordOf}
use Rattle.file_record.specs.declared.held.Held.{Held}
use Rattle.file_record.specs.declared.parts.FileParts.{FileParts}
use Rattle.stream_overwrites.specs.Below.{IsInOneRecord}
use Rattle.sparse_io.specs.declared.find.FoundStream.{FoundStream}
use Rattle.tree_edit.specs.Punchable.{CanPunch}

-- A VALUE CAN BE CHANGED, OR GO: file f can be edited and has no attribute list, and the stream that was found is a value.
pub record CanChange (view : VolumeView) (found : FoundStream) (f : ℕ) : Type 0 where
  pub value : CanPunch view found f
  pub one : IsInOneRecord view f

-- .. and have so many bytes: no more than it has, or its record has room for them, of which so many bytes are free.
abbrev pub has_room : ℕ → ℕ → ℕ → Bool
has_room free had size = nat_le size had || nat_le (size + 7) (had + free)

abbrev pub has_room_for : VolumeView → ℕ → ℕ → ℕ → Bool
has_room_for view f had size = has_room (free_bytes view f) had size

-- The part is a value that can have so many bytes, in whichever record of the file it stands.
abbrev pub FitsPart : VolumeView → ℕ → Part → ℕ → Type 0
FitsPart view f part size =
    IsSomeAnd (content_value part.content) (λ value. (n : ℕ) → IsRecordOf view f n → has_room_for view n (length value) size ≡ true)

-- Attribute i of an opened record is a value that can have so many bytes there.
abbrev pub fits_in : List ℕ → ℕ → ℕ → Bool
fits_in block i size =
    option_map_or (λ (value : List ℕ). has_room (1024 - used_size block) (length value) size)
    (value_of (attribute_in block i).body) false

-- PART i OF A FILE THAT IS HELD stands in this record, and so many bytes of that are free.
pub record TellsFree (file : FileParts) (i free : ℕ) : Type 0 where
  pub one : Held
  pub among : Contains (held_of file) one
  pub part : Part
  pub there : slice_get (parts_held file) i ≡ Some part
  pub holder : part.holder ≡ one.number
  pub free_is : free ≡ 1024 - used_size one.block

-- .. and this tells whether it is a value that can have so many bytes there.
pub record TellsFit (file : FileParts) (i size : ℕ) (fits : Bool) : Type 0 where
  pub one : Held
  pub among : Contains (held_of file) one
  pub part : Part
  pub there : slice_get (parts_held file) i ≡ Some part
  pub holder : part.holder ≡ one.number
  pub fits_is : fits ≡ option_map_or (λ (value : List ℕ). has_room (1024 - used_size one.block) (length value) size)
      (content_value part.content) false

-- The value of this part of file f was changed so, in the record that holds it, and nothing else of the volume changed.
pub record ChangesPart (old new : VolumeView) (f : ℕ) (part : Part) (change : List ℕ → List ℕ) : Type 0 where
  pub n : ℕ
  pub own : IsRecordOf old f n
  pub i : ℕ
  pub changes : ChangesValue old new n i change
  pub is : part_of n changes.was ≡ part

-- .. or it cannot have so many bytes, and nothing was done.
abbrev pub ChangesWhereFits : Bool → VolumeView → VolumeView → ℕ → Part → ℕ → (List ℕ → List ℕ) → Type 0
ChangesWhereFits true old new f part size change = ChangesPart old new f part change
ChangesWhereFits false old new f part size change = ¬ (FitsPart old f part size)

-- The part went out of it.
pub record RemovesPart (old new : VolumeView) (f : ℕ) (part : Part) : Type 0 where
  pub n : ℕ
  pub own : IsRecordOf old f n
  pub i : ℕ
  pub removes : RemovesAttribute old new n i
  pub is : part_of n removes.was ≡ part
