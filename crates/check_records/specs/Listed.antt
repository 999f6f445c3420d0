-- Files that have an attribute list, as they are judged: the records that are held of one, and what is found of it.
use Rattle.std.specs.Prelude.{◌≡◌, ◌<◌, ◌≤◌, ◌^◌, ◌++◌, ℕ, false, List, Some, All, IfSome, IsSomeAnd, IsTrue, count_by, length}
use Rattle.std.specs.List.{flat_map, list_any}
use Rattle.ntfs_def.specs.Flags.{is_packed}
use Rattle.volume_def.specs.Files.{Part, Records, content_extent, is_base, parts, record_of, record_on, records_of}
use Rattle.volume_def.specs.ListsClause.{HasRightList, LiesOnVolume, entries_in, is_list, list_value, most_list_len}
use Rattle.list_laws.specs.SameItems.{SameItems}
use Rattle.volume_def.specs.View.{VolumeView}
use Rattle.file_record.specs.declared.held.Held.{Held}
use Rattle.file_record.specs.Held.{parts_of}
use Rattle.file_record.specs.Records.{IsRecordOf}
use Rattle.record_notes.specs.declared.spread.Extension.{Extension}
use Rattle.file_clauses.specs.Lists.{NamesEach}
use Rattle.record_notes.specs.Spread.{parts_from}

-- the parts of these records, in their order
abbrev pub all_parts : List Held → List Part
all_parts held = flat_map parts_of held

-- A record is held as the table has it.
pub record IsHeldIn (records : Records) (held : Held) : Type 0 where
  pub at : records.record_at held.number ≡ Some (record_of held.number held.block)
  pub small : held.number < 2 ^ 48

-- A list whose value can be read: it is not packed, lies whole on the volume, and is short enough.
pub record IsPlacedList (view : VolumeView) (part : Part) : Type 0 where
  pub plain : is_packed part.kind part.flags ≡ false
  pub placed : IfSome (content_extent part.content) (LiesOnVolume view part)
  pub short : length (list_value view part) ≤ most_list_len

-- Record f is a base record with a list.
abbrev pub IsListedFile : VolumeView → ℕ → Type 0
IsListedFile view f = IsSomeAnd (record_on view f) (λ r. IsTrue (is_base r) × IsTrue (list_any is_list r.parts))

-- What the clause on lists asks of such a file.
abbrev pub MeetsListedLists : VolumeView → ℕ → Type 0
MeetsListedLists view f = IsListedFile view f → HasRightList view f (parts (records_of view) f)

-- What is asked of the value of the list of file f: it names each other part once, and the file has no other list.
pub record NamesParts (view : VolumeView) (f : ℕ) (value : List ℕ) : Type 0 where
  pub few : count_by is_list (parts (records_of view) f) ≤ 1
  pub names : NamesEach (entries_in (records_of view) (parts (records_of view) f)) value

-- The base record of a file is held, which has a list, and these are its extension records.
pub record IsBaseHeld (view : VolumeView) (base : Held) (extensions : List Extension) : Type 0 where
  pub held : IsHeldIn (records_of view) base
  pub own : All (λ extension. IsRecordOf view base.number extension.number) extensions
  pub all : SameItems (parts_of base ++ parts_from (records_of view) base.number extensions) (parts (records_of view) base.number)
  pub lists : 1 ≤ count_by is_list (parts_of base)
