-- Bytes of an image, of the clusters of a run, and pieces of a range.
use Rattle.std.specs.Prelude.{◌≡◌, ◌⊎◌, ℕ, ◌+◌, ◌/◌, ◌%◌, List, map, slice_index, Option, Some}
use Rattle.std.specs.List.{range_with_len}
use Rattle.std.specs.Option.{option_map}
use Rattle.ntfs_def.specs.declared.run_text.Spot.{Spot}
use Rattle.ntfs_def.specs.Runs.{spot_in}

-- byte i of the sectors of a disk; zero where the disk has none
abbrev pub image_byte : (ℕ → List ℕ) → ℕ → ℕ
image_byte disk i = slice_index (disk (i / 512)) (i % 512)

-- so many bytes of them, from byte `at` on
unfoldable pub image_bytes : (ℕ → List ℕ) → ℕ → ℕ → List ℕ
image_bytes disk at len = map (image_byte disk) (range_with_len at len)

-- where cluster k lies of a run that begins here and does not end
abbrev pub spot_on : Option ℕ → ℕ → Spot
spot_on lcn k = spot_in (Some (option_map (λ place. place + k) lcn))

-- Byte at + m lies where a piece begins, or m bytes of so many are none or all.
abbrev pub IsSeam : ℕ → ℕ → ℕ → Type 0
IsSeam at m len = (m ≡ 0) ⊎ (m ≡ len) ⊎ ((at + m) % 512 ≡ 0)
