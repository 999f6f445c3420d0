-- What is held of a file, and when it is what the volume tells of it.
use Rattle.std.specs.Prelude.{◌≡◌, ◌<◌, ℕ, List, map, All, IsSomeAnd, slice_get}
use Rattle.std.specs.List.{AllPairs, flat_map}
use Rattle.ntfs_def.specs.Attribute.{Attribute, attributes}
use Rattle.ntfs_def.specs.Fixup.{bare_of, opened_of}
use Rattle.volume_def.specs.Files.{Part, part_of, parts, records_of}
use Rattle.volume_def.specs.Readable.{IsFile, IsReadableVolume}
use Rattle.volume_def.specs.View.{VolumeView}
use Rattle.file_record.specs.declared.held.Held.{Held}
use Rattle.file_record.specs.declared.parts.FileParts.{FileParts}

-- the records that are held, by rising number
abbrev pub held_of : FileParts → List Held
held_of file = file.held.items

-- record `place` of those that are held: `P` holds of it
abbrev pub RecordHeld : FileParts → ℕ → (Held → Type 0) → Type 0
RecordHeld file place P = IsSomeAnd (slice_get (held_of file) place) P

abbrev pub file_number : FileParts → ℕ
file_number file = file.number

abbrev pub attributes_in : Held → List Attribute
attributes_in held = attributes held.block

-- all attributes that are held, by record and place
abbrev pub attributes_held : FileParts → List Attribute
attributes_held file = flat_map attributes_in (held_of file)

abbrev pub parts_of : Held → List Part
parts_of held = map (part_of held.number) (attributes held.block)

-- the same as parts
abbrev pub parts_held : FileParts → List Part
parts_held file = flat_map parts_of (held_of file)

-- A record is held as the volume has it, its update sequence array aside.
abbrev pub IsCurrentRecord : VolumeView → Held → Type 0
IsCurrentRecord view held = bare_of held.block ≡ bare_of (opened_of (view.block held.number))

abbrev pub IsCurrent : VolumeView → FileParts → Type 0
IsCurrent view file = All (IsCurrentRecord view) (held_of file)

-- What is held is the file of its number, as the volume has it: all of its parts.
pub record AreParts (view : VolumeView) (file : FileParts) : Type 0 where
  pub current : IsCurrent view file
  pub parts : parts_held file ≡ parts (records_of view) (file_number file)

-- What is held is a file of a volume whose files can be read, as the volume has it.
pub record IsHeldFile (view : VolumeView) (file : FileParts) : Type 0 where
  pub readable : IsReadableVolume view
  pub parts : AreParts view file
  pub is_file : IsFile view (file_number file)

-- Each record is of a lower number than those behind it: so none is held twice.
abbrev pub AreRising : List Held → Type 0
AreRising held = AllPairs (λ one behind. one.number < behind.number) held
