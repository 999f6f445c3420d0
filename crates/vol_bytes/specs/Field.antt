-- The fields of a layout. Every number on an NTFS volume is little-endian (Carrier, File System
-- Forensic Analysis, chapter 11; Linux-NTFS documentation, "NTFS concepts").
use Rattle.std.specs.Prelude.{◌≡◌, ℕ, ◌+◌, ◌*◌, ◌^◌, ◌<◌, ◌≤◌, List, length, slice_index}

-- the number in the two bytes at `at`, the lowest first
abbrev pub u16_at : List ℕ → ℕ → ℕ
u16_at bytes at = slice_index bytes at + 2 ^ 8 * slice_index bytes (at + 1)

abbrev pub u32_at : List ℕ → ℕ → ℕ
u32_at bytes at = u16_at bytes at + 2 ^ 16 * u16_at bytes (at + 2)

abbrev pub u64_at : List ℕ → ℕ → ℕ
u64_at bytes at = u32_at bytes at + 2 ^ 32 * u32_at bytes (at + 4)

-- the new bytes are as many as the old ones, and differ from them only from `from` up to `to`
pub record SameOutside (old new : List ℕ) (from to : ℕ) : Type 0 where
  pub len : length new ≡ length old
  pub below : (k : ℕ) → k < from → slice_index new k ≡ slice_index old k
  pub above : (k : ℕ) → to ≤ k → slice_index new k ≡ slice_index old k
