-- The names of files: the value of a $FILE_NAME, which is the key of a directory's entry too.
-- Layout: Linux-NTFS documentation, attribute $FILE_NAME; Carrier, File System Forensic Analysis, chapter 13.
use Rattle.std.specs.Prelude.{ℕ, ◌+◌, ◌*◌, nat_le, ◌&&◌, Bool, List, length, slice_index}
use Rattle.vol_bytes.specs.Field.{u64_at}
use Rattle.ntfs_def.specs.Node.{Item}
use Rattle.ntfs_def.specs.Record.{Reference, reference_in}
use Rattle.ntfs_def.specs.Units.{units_at}

-- 0x00: the directory that has the name
abbrev pub parent_reference : List ℕ → Reference
parent_reference key = reference_in (u64_at key 0x00)

-- 0x40: the length of the name in units
abbrev pub unit_count : List ℕ → ℕ
unit_count key = slice_index key 0x40

-- 0x41: the namespace: 0 POSIX, 1 Win32, 2 DOS, 3 both
abbrev pub namespace_of : List ℕ → ℕ
namespace_of key = slice_index key 0x41

-- 0x42: the units of the name
abbrev pub key_units : List ℕ → List ℕ
key_units key = units_at key 0x42 (unit_count key)

-- The value is whole: it has its fields, one unit at least, and holds all its units.
abbrev pub is_name_key : List ℕ → Bool
is_name_key key = nat_le 0x42 (length key) && nat_le 1 (unit_count key) && nat_le (0x42 + 2 * unit_count key) (length key)

-- a name, in its directory
pub record FileName : Type 0 where
  pub parent : Reference
  pub namespace : ℕ
  pub units : List ℕ

unfoldable pub name_in : List ℕ → FileName
name_in key = record { parent = parent_reference key; namespace = namespace_of key; units = key_units key }

-- a name, and the file that has it
pub record Link : Type 0 where
  pub file : Reference
  pub name : FileName

-- what a directory's entry says
abbrev pub link_of : Item → Link
link_of item = record { file = reference_in (u64_at item.head 0); name = name_in item.key }
