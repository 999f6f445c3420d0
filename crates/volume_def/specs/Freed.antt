-- Records that are freed, and taken: one that is freed stays a block of the table, says that it is not in use, and counts up, so that no
-- reference to it holds any more; one that is taken keeps the number to which its block counted.
-- Source: Linux-NTFS documentation, "File Record" and "File Reference"; Carrier, File System Forensic Analysis, chapter 13.
use Rattle.std.specs.Prelude.{◌≡◌, ◌⊎◌, ℕ, ◌+◌, ◌*◌, ◌/◌, ◌<◌, ◌≤◌, ◌==◌, List, codes, length, nat_eq, slice_index, if◌then◌else◌}
use Rattle.std.specs.List.{starts_with}
use Rattle.ntfs_def.specs.Fixup.{array_end, array_place, opened_of}
use Rattle.ntfs_def.specs.Record.{record_flags, sequence_of}

-- the sequence number behind this one: it counts up where the record is freed, and passes over 0
abbrev pub sequence_after : ℕ → ℕ
sequence_after sequence = if sequence == 0xFFFF then 1 else sequence + 1

-- The sequence number of a block in which a record is, or was; 0 where none ever was.
abbrev pub stored_sequence : List ℕ → ℕ
stored_sequence block = if starts_with nat_eq block (codes "FILE") then sequence_of (opened_of block) else 0

-- the sequence number of a record that is taken, by that of its block
abbrev pub sequence_at_first : ℕ → ℕ
sequence_at_first sequence = if sequence == 0 then 1 else sequence

-- the flags without that of use, which is the lowest
abbrev pub flags_unused : ℕ → ℕ
flags_unused flags = flags / 2 * 2

-- byte k stands outside the update sequence array, the sequence number and the flags
pub record IsKeptByte (block : List ℕ) (k : ℕ) : Type 0 where
  pub array : (k < array_place block) ⊎ (array_end block ≤ k)
  pub sequence : (k < 0x10) ⊎ (0x12 ≤ k)
  pub flags : (k < 0x16) ⊎ (0x18 ≤ k)

-- The opened record was freed: of all that stands outside its update sequence array only these two fields changed.
pub record FreesRecord (was now : List ℕ) : Type 0 where
  pub len : length now ≡ length was
  pub sequence : sequence_of now ≡ sequence_after (sequence_of was)
  pub flags : record_flags now ≡ flags_unused (record_flags was)
  pub others : (k : ℕ) → IsKeptByte was k → slice_index now k ≡ slice_index was k
