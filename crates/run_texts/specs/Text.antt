-- How long the written form of runs is, as a function. That every number takes the fewest bytes is this project's choice.
use Rattle.std.specs.Prelude.{ℕ, zero, suc, ◌+◌, ◌-◌, ◌*◌, ◌^◌, nat_lt, ℤ, pos, negsuc, ◌-ℤ◌, List, [], ◌∷◌, drop, Option, Some, None}
use Rattle.std.specs.Prelude.{if◌then◌else◌}
use Rattle.ntfs_def.specs.declared.run_text.Run.{Run}
use Rattle.ntfs_def.specs.Runs.{length_width, place_after, run_width}

-- the fewest bytes from `size` on, among so many more, that hold a number with the top bit clear
abbrev pub fewest_from : ℕ → ℕ → ℕ → ℕ
fewest_from zero size n = size
fewest_from (suc more) size n = if nat_lt n (2 ^ (8 * size - 1)) then size else fewest_from more (size + 1) n

unfoldable pub fewest : ℕ → ℕ
fewest n = fewest_from 7 1 n

-- the bytes of a signed number
abbrev pub number_bytes : ℤ → ℕ
number_bytes (pos n) = fewest n
number_bytes (negsuc n) = fewest n

-- the bytes of the way from the last place; a hole has none
abbrev pub place_bytes : ℕ → Option ℕ → ℕ
place_bytes last None = 0
place_bytes last (Some place) = number_bytes (pos place -ℤ pos last)

-- a byte that counts the others, the length, the place
abbrev pub run_bytes : ℕ → Run → ℕ
run_bytes last run = 1 + fewest run.len + place_bytes last run.lcn

-- with the zero byte that ends it
abbrev pub text_bytes : ℕ → List Run → ℕ
text_bytes last [] = 1
text_bytes last (run ∷ runs) = run_bytes last run + text_bytes (place_after last run) runs

-- The most bytes that a run put in a hole, or a hole put among runs, adds to a text: 17 of a run with a place, 9 of a hole, and 8 by
-- which the place of the next run may be told longer.
abbrev pub most_longer : ℕ
most_longer = 34

-- How many runs of a text have a length whose top bit is set, which the written form tells by a byte more: a length is read without a sign.
abbrev pub high_lengths : List ℕ → List Run → ℕ
high_lengths text [] = 0
high_lengths text (run ∷ runs) =
    (if nat_lt run.len (2 ^ (8 * length_width text - 1)) then 0 else 1) + high_lengths (drop (run_width text) text) runs
