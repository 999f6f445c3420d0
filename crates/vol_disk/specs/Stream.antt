-- What a source gives and what a sink takes.
use Rattle.std.specs.Prelude.{◌≡◌, ◌≤◌, ℕ, List, ◌++◌, take, drop, length, Option, Some}
use Rattle.vol_disk.specs.Contents.{map_told}

-- the first n of all bytes that were left stand at the front of the buffer, and the rest is left
pub record Gives (n : ℕ) (all buffer : List ℕ) (left : Option (List ℕ)) : Type 0 where
  pub enough : n ≤ length all
  pub front : take n buffer ≡ take n all
  pub rest : left ≡ Some (drop n all)

-- the text came behind what was there, where that is told
abbrev pub IsAppended : Option (List ℕ) → List ℕ → Option (List ℕ) → Type 0
IsAppended before text after = after ≡ map_told (λ all. all ++ text) before

-- the same of some part of the text from its front
abbrev pub IsAppendedPart : Option (List ℕ) → List ℕ → Option (List ℕ) → Type 0
IsAppendedPart before text after = (n : ℕ) × IsAppended before (take n text) after
