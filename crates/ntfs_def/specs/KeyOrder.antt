-- The orders of keys. Each compares lists of numbers that a key says, so it is an order on all bytes; on a valid key
-- these numbers are those of the layout.
-- Source: Linux-NTFS documentation, "Collation Rules", files $UpCase and $Secure; Carrier, File System Forensic
-- Analysis, chapter 13.
use Rattle.std.specs.Prelude.{ℕ, ◌*◌, ◌/◌, ◌%◌, ◌==◌, Bool, List, [], ◌∷◌, length, map}
use Rattle.std.specs.List.{range_with_len}
use Rattle.std.specs.Ordering.{nat_cmp, on, then_cmp}
use Rattle.std.specs.Cmp.Lexicographic.{slice_cmp}
use Rattle.std.specs.declared.cmp.Ordering.{Ordering}
use Rattle.vol_bytes.specs.Field.{u16_at, u32_at}
use Rattle.ntfs_def.specs.FileName.{key_units}

-- The table of case: what a unit is compared as. `table` is the bytes of the unnamed $DATA of $UpCase, which has a
-- unit of two bytes for each unit.
abbrev pub fold_of : List ℕ → ℕ → ℕ
fold_of table unit = u16_at table (2 * unit)

-- the bytes of a table of case
abbrev pub case_table_len : ℕ
case_table_len = 131072

-- lists of numbers by their first difference, a proper prefix first
abbrev pub by_numbers : List ℕ → List ℕ → Ordering
by_numbers = slice_cmp nat_cmp

-- Names: by their folded units, and equal ones by their plain units (this project's choice).
abbrev pub compare_units : (ℕ → ℕ) → List ℕ → List ℕ → Ordering
compare_units fold = then_cmp (on (map fold) by_numbers) by_numbers

-- collation 1, of a directory's keys: by their names
unfoldable pub name_order : (ℕ → ℕ) → List ℕ → List ℕ → Ordering
name_order fold = on key_units (compare_units fold)

-- names by their folded units alone: what a name that is sought is compared by where it is not there exactly
unfoldable pub fold_order : (ℕ → ℕ) → List ℕ → List ℕ → Ordering
fold_order fold = on key_units (on (map fold) by_numbers)

-- collation 0x10: by an id of four bytes
abbrev pub id_parts : List ℕ → List ℕ
id_parts key = u32_at key 0 ∷ []

-- collation 0x12: by a hash, and then by an id
abbrev pub hash_parts : List ℕ → List ℕ
hash_parts key = u32_at key 0 ∷ u32_at key 4 ∷ []

-- collation 0x13: by words of four bytes, in order
abbrev pub word_parts : List ℕ → List ℕ
word_parts key = map (λ k. u32_at key (4 * k)) (range_with_len 0 (length key / 4))

unfoldable pub id_order : List ℕ → List ℕ → Ordering
id_order = on id_parts by_numbers

unfoldable pub hash_order : List ℕ → List ℕ → Ordering
hash_order = on hash_parts by_numbers

unfoldable pub word_order : List ℕ → List ℕ → Ordering
word_order = on word_parts by_numbers

-- the bytes that are keys of these orders; those of the first are `is_name_key`
abbrev pub is_id_key : List ℕ → Bool
is_id_key key = length key == 4

abbrev pub is_hash_key : List ℕ → Bool
is_hash_key key = length key == 8

abbrev pub is_word_key : List ℕ → Bool
is_word_key key = length key % 4 == 0
