-- The value of a $STANDARD_INFORMATION: the times and the DOS flags of a file, and who may do what with it. `value` is the value,
-- of 48 bytes, or of 72 as NTFS 3 writes it. A time counts steps of 100 nanoseconds from the start of 1601.
-- Layout: Linux-NTFS documentation, attribute $STANDARD_INFORMATION; Carrier, File System Forensic Analysis, chapter 13.
use Rattle.std.specs.Prelude.{ℕ, nat_lt, List, [], ◌∷◌, length, if◌then◌else◌}
use Rattle.vol_bytes.specs.Field.{u32_at, u64_at}

-- 0x00: when the file was made
abbrev pub created_time : List ℕ → ℕ
created_time value = u64_at value 0x00

-- 0x08: when its data were changed last
abbrev pub modified_time : List ℕ → ℕ
modified_time value = u64_at value 0x08

-- 0x10: when its record was changed last
abbrev pub record_change_time : List ℕ → ℕ
record_change_time value = u64_at value 0x10

-- 0x18: when it was read last
abbrev pub access_time : List ℕ → ℕ
access_time value = u64_at value 0x18

-- the four times, in this order
abbrev pub standard_times : List ℕ → List ℕ
standard_times value = created_time value ∷ modified_time value ∷ record_change_time value ∷ access_time value ∷ []

-- 0x20: the DOS flags
abbrev pub dos_flags : List ℕ → ℕ
dos_flags value = u32_at value 0x20

-- 0x24 the most versions, 0x28 the version, 0x2C the id of the class: this project reads none of them. A value of 48 bytes ends
-- here.

-- 0x30: the id of the owner, which this project does not read

-- 0x34: the id of the security descriptor, which a value below 72 bytes does not tell; such a one is read as 0
abbrev pub standard_security : List ℕ → ℕ
standard_security value = if nat_lt (length value) 72 then 0 else u32_at value 0x34

-- 0x38 the quota charged, 0x40 the number of the last entry of the change journal: this project reads none of them.
