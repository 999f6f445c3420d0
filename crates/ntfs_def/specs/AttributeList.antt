-- The value of an $ATTRIBUTE_LIST: which record holds each other attribute of a file that is kept in several records.
-- `value` is the value, and `at` the place of an entry in it.
-- Layout: Linux-NTFS documentation, attribute $ATTRIBUTE_LIST; Carrier, File System Forensic Analysis, chapter 13.
use Rattle.std.specs.Prelude.{◌≡◌, ℕ, zero, suc, ◌+◌, ◌*◌, ◌<◌, ◌≤◌, nat_le, List, [], ◌∷◌, length, slice_index, slice_range, if◌then◌else◌}
use Rattle.vol_bytes.specs.Field.{u16_at, u32_at, u64_at}
use Rattle.ntfs_def.specs.Record.{Reference, reference_in}

-- 0x00: the type of the attribute
abbrev pub listed_kind : List ℕ → ℕ → ℕ
listed_kind value at = u32_at value at

-- 0x04: the bytes of the entry
abbrev pub listed_len : List ℕ → ℕ → ℕ
listed_len value at = u16_at value (at + 0x04)

-- 0x06: the length of the attribute's name in units
abbrev pub listed_units : List ℕ → ℕ → ℕ
listed_units value at = slice_index value (at + 0x06)

-- 0x07: where the name begins, from the entry on
abbrev pub listed_name_offset : List ℕ → ℕ → ℕ
listed_name_offset value at = slice_index value (at + 0x07)

-- 0x08: the number, in the stream, of the first cluster that the attribute holds; 0 of a resident one
abbrev pub listed_first : List ℕ → ℕ → ℕ
listed_first value at = u64_at value (at + 0x08)

-- 0x10: the record that holds the attribute
abbrev pub listed_holder : List ℕ → ℕ → ℕ
listed_holder value at = u64_at value (at + 0x10)

-- 0x18: the id of the attribute in that record
abbrev pub listed_id : List ℕ → ℕ → ℕ
listed_id value at = u16_at value (at + 0x18)

-- 0x1A: the bytes of the name
abbrev pub listed_name : List ℕ → ℕ → List ℕ
listed_name value at = slice_range value (at + 0x1A) (at + 0x1A + 2 * listed_units value at)

-- An entry of a list, apart from its place.
pub record ListEntry : Type 0 where
  pub kind : ℕ
  pub name : List ℕ
  pub first : ℕ
  pub holder : Reference
  pub id : ℕ

abbrev pub list_entry_at : List ℕ → ℕ → ListEntry
list_entry_at value at = record {
  kind = listed_kind value at;
  name = listed_name value at;
  first = listed_first value at;
  holder = reference_in (listed_holder value at);
  id = listed_id value at;
}

-- An entry stands there, whole. Behind its name it may be padded.
pub record IsListEntry (value : List ℕ) (at : ℕ) : Type 0 where
  pub name_offset : listed_name_offset value at ≡ 0x1A
  pub name_inside : 0x1A + 2 * listed_units value at ≤ listed_len value at
  pub inside : at + listed_len value at ≤ length value

-- where entry i begins
abbrev pub list_entry_place : List ℕ → ℕ → ℕ
list_entry_place value zero = 0
list_entry_place value (suc i) = list_entry_place value i + listed_len value (list_entry_place value i)

-- At each of the first so many places stands an entry.
abbrev pub HasListEntries : List ℕ → ℕ → Type 0
HasListEntries value count = (i : ℕ) → i < count → IsListEntry value (list_entry_place value i)

-- The value is a list of this many entries, one behind the other.
pub record HasListShape (value : List ℕ) (count : ℕ) : Type 0 where
  pub each : HasListEntries value count
  pub end : list_entry_place value count ≡ length value

-- What stands there, behind entries that are all right, is neither an entry nor the end.
pub record IsFirstBadEntry (value : List ℕ) (at : ℕ) : Type 0 where
  pub before : (i : ℕ) × (at ≡ list_entry_place value i) × HasListEntries value i
  pub more : at < length value
  pub bad : ¬ (IsListEntry value at)

-- the entries from `at` up to the end, at most so many
abbrev pub list_entries_from : ℕ → List ℕ → ℕ → List ListEntry
list_entries_from zero value at = []
list_entries_from (suc most) value at =
    if nat_le (length value) at then [] else list_entry_at value at ∷ list_entries_from most value (at + listed_len value at)

-- The entries of a list, in order. An entry has 26 bytes at least, so a list has no more of them than bytes.
unfoldable pub list_entries : List ℕ → List ListEntry
list_entries value = list_entries_from (length value) value 0
