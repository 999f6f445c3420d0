use Rattle.std.proofs.Common.{ℕ, List, length}
use Rattle.std.specs.Str.Iter.{chars_rest}
use Rattle.vol_bytes.specs.NameText.{IsSpelled}
use Rattle.vol_bytes.proofs.reading.are_letters.Given as goal

abbrev pub invariant-letters : goal.invariant-letters
invariant-letters l = record {
  onto : (units : List ℕ) → IsSpelled (chars_rest l.chars) units → (all : List ℕ) × IsSpelled l.text all;
  back : (all : List ℕ) → IsSpelled l.text all → (units : List ℕ) × IsSpelled (chars_rest l.chars) units;
}

abbrev pub decreases-letters : goal.decreases-letters
decreases-letters l = length (chars_rest l.chars)
