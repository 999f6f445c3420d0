-- What a volume is after an attribute came into a record of a file that is held, went, was put in another's place, or has another value.
use Rattle.std.specs.Prelude.{◌≡◌, ◌+◌, ◌≤◌, ℕ, List, [], ◌∷◌, Some, IsSomeAnd, length, max, slice_get, slice_index, slice_set}
use Rattle.std.specs.List.{insert, remove}
use Rattle.std.specs.Option.{option_map}
use Rattle.ntfs_def.specs.Attribute.{Attribute, attribute_at, attribute_id, attribute_len, attribute_place, attributes, value_of}
use Rattle.ntfs_def.specs.Fixup.{opened_of}
use Rattle.ntfs_def.specs.Record.{Header, header_of, is_in_use, used_size}
use Rattle.ntfs_def.specs.Shape.{HasShape}
use Rattle.attr_view.specs.Edit.{next_id_after, with_next_id}
use Rattle.attr_view.specs.Values.{ChangesBody, attribute_in, len_with, overwritten, with_length}
use Rattle.volume_def.specs.View.{VolumeView}
use Rattle.volume_edits.specs.Rewritten.{EditsBlock, RewritesRecord}

-- the header of a record into which an attribute of this id was put
abbrev pub header_after : Header → ℕ → Header
header_after header id = with_next_id header (next_id_after header.next_id id)

-- The opened record has this attribute in the place of its attribute i, and every other one as before.
pub record PutsInstead (old new attr : List ℕ) (i : ℕ) : Type 0 where
  pub shape : HasShape new (length (attributes new))
  pub as_many : length (attributes new) ≡ length (attributes old)
  pub header : header_of new ≡ header_after (header_of old) (attribute_id attr 0)
  pub in_use : is_in_use new ≡ is_in_use old
  pub used : used_size new + attribute_len old (attribute_place old i) ≡ used_size old + length attr
  pub attributes : attributes new ≡ slice_set (attributes old) i (attribute_at attr 0)

-- the opened record n of a volume
abbrev pub opened_record : VolumeView → ℕ → List ℕ
opened_record view n = opened_of (view.block n)

-- AN ATTRIBUTE CAME into record n, before its attribute i or behind all. Nothing else of the volume changed.
pub record InsertsAttribute (old new : VolumeView) (n i : ℕ) (attr : List ℕ) : Type 0 where
  pub stored : List ℕ
  pub edits : EditsBlock old new n stored [] (attribute_at attr 0 ∷ [])
  pub header_is : header_of (opened_of stored) ≡ header_after (header_of (opened_record old n)) (attribute_id attr 0)
  pub attributes_are : attributes (opened_of stored) ≡ insert (attributes (opened_record old n)) i (attribute_at attr 0)

-- ATTRIBUTE i OF RECORD n WENT. Nothing else of the volume changed.
pub record RemovesAttribute (old new : VolumeView) (n i : ℕ) : Type 0 where
  pub stored : List ℕ
  pub was : Attribute
  pub there : slice_get (attributes (opened_record old n)) i ≡ Some was
  pub edits : EditsBlock old new n stored (was ∷ []) []
  pub header_is : header_of (opened_of stored) ≡ header_of (opened_record old n)
  pub attributes_are : attributes (opened_of stored) ≡ remove (attributes (opened_record old n)) i

-- ANOTHER CAME IN THE PLACE OF ATTRIBUTE i of record n. Nothing else of the volume changed.
pub record ReplacesAttribute (old new : VolumeView) (n i : ℕ) (attr : List ℕ) : Type 0 where
  pub stored : List ℕ
  pub was : Attribute
  pub there : slice_get (attributes (opened_record old n)) i ≡ Some was
  pub edits : RewritesRecord old new n stored was (attribute_at attr 0)
  pub header_is : header_of (opened_of stored) ≡ header_after (header_of (opened_record old n)) (attribute_id attr 0)
  pub attributes_are : attributes (opened_of stored) ≡ slice_set (attributes (opened_record old n)) i (attribute_at attr 0)

-- THE VALUE OF ATTRIBUTE i OF RECORD n WAS CHANGED so, all else of the attribute stays, and nothing else of the volume changed.
pub record ChangesValue (old new : VolumeView) (n i : ℕ) (change : List ℕ → List ℕ) : Type 0 where
  pub stored : List ℕ
  pub was : Attribute
  pub now : Attribute
  pub there : slice_get (attributes (opened_record old n)) i ≡ Some was
  pub edits : RewritesRecord old new n stored was now
  pub header_is : header_of (opened_of stored) ≡ header_of (opened_record old n)
  pub attributes_are : attributes (opened_of stored) ≡ slice_set (attributes (opened_record old n)) i now
  pub kind : now.kind ≡ was.kind
  pub name : now.name ≡ was.name
  pub id : now.id ≡ was.id
  pub flags : now.flags ≡ was.flags
  -- whether the value is a key of an index
  pub indexed : slice_index now.bytes 0x16 ≡ slice_index was.bytes 0x16
  pub value : value_of now.body ≡ option_map change (value_of was.body)

-- It has another length.
abbrev pub ResizesAttribute : VolumeView → VolumeView → ℕ → ℕ → ℕ → Type 0
ResizesAttribute old new n i len = ChangesValue old new n i (with_length len)

-- These bytes stand in it from `at` on, and it is as long as they need, with zeros before them where it was shorter.
abbrev pub with_bytes_at : ℕ → List ℕ → List ℕ → List ℕ
with_bytes_at at from value = overwritten (with_length (max (at + length from) (length value)) value) at from

abbrev pub PutsInValue : VolumeView → VolumeView → ℕ → ℕ → ℕ → List ℕ → Type 0
PutsInValue old new n i at from = ChangesValue old new n i (with_bytes_at at from)

-- In an opened record: attribute i is a value, and the record has room for it where n bytes are put into it from `at` on.
abbrev pub HasRoomToPut : List ℕ → ℕ → ℕ → ℕ → Type 0
HasRoomToPut block i at n = IsSomeAnd (value_of (attribute_in block i).body) (λ value.
    used_size block + len_with block i (max (at + n) (length value)) ≤ 1024 + attribute_len block (attribute_place block i))

-- the bytes that are used then
abbrev pub IsRoomAfterPut : List ℕ → List ℕ → ℕ → ℕ → ℕ → Type 0
IsRoomAfterPut old new i at n = IsSomeAnd (value_of (attribute_in old i).body) (λ value.
    used_size new + attribute_len old (attribute_place old i) ≡ used_size old + len_with old i (max (at + n) (length value)))

-- The opened record has these bytes in the value of its attribute i, from `at` on.
pub record PutsIn (old new : List ℕ) (i at : ℕ) (from : List ℕ) : Type 0 where
  pub changes : ChangesBody old new i
  pub used : IsRoomAfterPut old new i at (length from)
  pub indexed : slice_index (attribute_in new i).bytes 0x16 ≡ slice_index (attribute_in old i).bytes 0x16
  pub value : value_of (attribute_in new i).body ≡ option_map (with_bytes_at at from) (value_of (attribute_in old i).body)
