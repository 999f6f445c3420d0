-- The bits of bytes, the lowest bit of a byte first, as a volume's bitmaps are stored.
-- Layout: Linux-NTFS documentation, files "$Bitmap" and "$MFT" (its $BITMAP); Carrier, File System Forensic Analysis, chapter 13,
-- the $Bitmap file.
use Rattle.std.specs.Prelude.{ℕ, ◌/◌, ◌%◌, ◌==◌, Bool, List, map, slice_index}
use Rattle.std.specs.List.{range_with_len}
use Rattle.std.specs.Int.{bit_at}

-- bit `at` of bytes
abbrev pub bit_in : List ℕ → ℕ → ℕ
bit_in bytes at = bit_at (slice_index bytes (at / 8)) (at % 8)

-- the first `count` bits of bytes: true where the bit is set
unfoldable pub flags_in : List ℕ → ℕ → List Bool
flags_in bytes count = map (λ at. bit_in bytes at == 1) (range_with_len 0 count)
