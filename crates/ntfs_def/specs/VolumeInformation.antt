-- The value of the $VOLUME_INFORMATION of record 3: the version of NTFS, and whether the volume was closed. `value` is the value,
-- of 12 bytes.
-- Layout: Linux-NTFS documentation, attribute $VOLUME_INFORMATION; Carrier, File System Forensic Analysis, chapter 13.
use Rattle.std.specs.Prelude.{ℕ, ◌%◌, List, slice_index}
use Rattle.vol_bytes.specs.Field.{u16_at}

-- 0x00: eight bytes that say nothing

-- 0x08 and 0x09: the version
abbrev pub major_version : List ℕ → ℕ
major_version value = slice_index value 0x08

abbrev pub minor_version : List ℕ → ℕ
minor_version value = slice_index value 0x09

-- 0x0A: the flags
abbrev pub volume_flags : List ℕ → ℕ
volume_flags value = u16_at value 0x0A

-- bit 0 of them, the dirty flag: the volume was not closed
abbrev pub dirty_bit : List ℕ → ℕ
dirty_bit value = volume_flags value % 2
