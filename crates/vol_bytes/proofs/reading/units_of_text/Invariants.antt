use Rattle.std.proofs.Common.{ℕ, List, ◌++◌, length}
use Rattle.std.specs.Str.Iter.{chars_rest}
use Rattle.vol_bytes.specs.NameText.{IsSpelled}
use Rattle.vol_bytes.proofs.reading.units_of_text.Given as goal

abbrev pub invariant-letters : goal.invariant-letters
invariant-letters l = record {
  onto : (more : List ℕ) → IsSpelled (chars_rest l.chars) more → IsSpelled l.text (l.units.items ++ more);
  left : (more : List ℕ) × IsSpelled (chars_rest l.chars) more;
}

abbrev pub decreases-letters : goal.decreases-letters
decreases-letters l = length (chars_rest l.chars)
