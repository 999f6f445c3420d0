-- The value of a $REPARSE_POINT: a tag, and data that whoever gave the tag reads. `value` is the value.
-- Layout: Linux-NTFS documentation, attribute $REPARSE_POINT; Carrier, File System Forensic Analysis, chapter 13.
use Rattle.std.specs.Prelude.{ℕ, ◌/◌, ◌%◌, ◌^◌, ◌==◌, Bool, List, drop, take, if◌then◌else◌}
use Rattle.vol_bytes.specs.Field.{u16_at, u32_at}

-- 0x00: the tag
abbrev pub reparse_tag : List ℕ → ℕ
reparse_tag value = u32_at value 0x00

-- bit 31 of a tag: it is set of those that Microsoft gives, whose points have no GUID
abbrev pub is_of_microsoft : ℕ → Bool
is_of_microsoft tag = tag / 2 ^ 31 % 2 == 1

-- 0x04: the bytes of the data
abbrev pub reparse_len : List ℕ → ℕ
reparse_len value = u16_at value 0x04

-- 0x06: two bytes that say nothing

-- The data begin at 0x08, or at 0x18 behind the GUID of who gave the tag.
abbrev pub data_place : ℕ → ℕ
data_place tag = if is_of_microsoft tag then 0x08 else 0x18

abbrev pub reparse_data : List ℕ → List ℕ
reparse_data value = take (reparse_len value) (drop (data_place (reparse_tag value)) value)
