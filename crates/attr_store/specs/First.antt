-- The attribute of a type and name of a file, by the part that tells its sizes.
use Rattle.std.specs.Prelude.{◌≡◌, ◌&&◌, ℕ, List, filter, find, slice_get, Option, Some, None}
use Rattle.ntfs_def.specs.Flags.{is_packed}
use Rattle.volume_def.specs.BitmapClauses.{written_in}
use Rattle.volume_def.specs.Files.{Part, is_of}
use Rattle.volume_def.specs.StreamSize.{real_size}
use Rattle.volume_def.specs.Values.{first_part, is_first}
use Rattle.file_record.specs.declared.parts.FileParts.{FileParts}
use Rattle.file_record.specs.Held.{parts_held}
use Rattle.attr_store.specs.declared.first.FirstPart.{FirstPart}
use Rattle.attr_store.specs.declared.stored.Stored.{Stored}

-- the parts of a type and name, in bytes, as they are held
abbrev pub attribute_held : FileParts → ℕ → List ℕ → List Part
attribute_held file kind name = filter (is_of kind name) (parts_held file)

-- The part of a file at this place tells the sizes of the attribute.
pub record TellsSizes (file : FileParts) (kind : ℕ) (name : List ℕ) (first : FirstPart) : Type 0 where
  pub part : Part
  pub at : slice_get (parts_held file) first.index ≡ Some part
  pub is_first : first_part (attribute_held file kind name) ≡ Some part
  pub packed : first.packed ≡ is_packed part.kind part.flags
  pub len : first.len ≡ real_size part.content
  pub written : first.written ≡ written_in part.content

-- The same, or none tells them.
abbrev pub TellsFirst : FileParts → ℕ → List ℕ → Option FirstPart → Type 0
TellsFirst file kind name None = first_part (attribute_held file kind name) ≡ None
TellsFirst file kind name (Some first) = TellsSizes file kind name first

-- the part that tells the sizes of an attribute: it was met, or it is the first of those that are left
abbrev pub FirstMet : FileParts → ℕ → List ℕ → List Part → Option FirstPart → Type 0
FirstMet file kind name left None = first_part (attribute_held file kind name) ≡ find (λ part. is_of kind name part && is_first part) left
FirstMet file kind name left (Some first) = TellsSizes file kind name first

-- The part of a file at this place tells the sizes of the attribute, whose value is so long.
pub record IsStored (file : FileParts) (kind : ℕ) (name : List ℕ) (stored : Stored) : Type 0 where
  pub first : Part
  pub at : slice_get (parts_held file) stored.part ≡ Some first
  pub is_first : first_part (attribute_held file kind name) ≡ Some first
  pub len : stored.len ≡ real_size first.content

-- The same, or none tells them.
abbrev pub IsStoredIfThere : FileParts → ℕ → List ℕ → Option Stored → Type 0
IsStoredIfThere file kind name None = first_part (attribute_held file kind name) ≡ None
IsStoredIfThere file kind name (Some stored) = IsStored file kind name stored
