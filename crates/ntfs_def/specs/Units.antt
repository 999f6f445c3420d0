-- UTF-16 units as they are stored: two bytes each, the lower first.
-- Source: Linux-NTFS documentation, "NTFS concepts"; Carrier, File System Forensic Analysis, chapter 11.
use Rattle.std.specs.Prelude.{ℕ, ◌+◌, ◌*◌, ◌/◌, List, [], ◌∷◌, length, map}
use Rattle.std.specs.List.{flat_map, range_with_len}
use Rattle.vol_bytes.specs.Field.{u16_at}

-- so many units from a place on
unfoldable pub units_at : List ℕ → ℕ → ℕ → List ℕ
units_at bytes at count = map (λ k. u16_at bytes (at + 2 * k)) (range_with_len 0 count)

-- the units in bytes; a last odd byte is left out
abbrev pub units_in : List ℕ → List ℕ
units_in bytes = units_at bytes 0 (length bytes / 2)

-- the bytes of units below 256, as a name is stored whose characters are of ASCII
abbrev pub wide : List ℕ → List ℕ
wide units = flat_map (λ unit. unit ∷ 0 ∷ []) units
