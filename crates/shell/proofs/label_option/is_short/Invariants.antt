use Rattle.std.proofs.Common.{◌≡◌, ◌+◌, ℕ, List, length}
use Rattle.std.specs.Str.Iter.{chars_rest}
use Rattle.vol_bytes.specs.NameText.{IsSpelled}
use Rattle.shell.proofs.label_option.is_short.Given as goal

abbrev pub invariant-letters : goal.invariant-letters
invariant-letters l = record {
  back : (all : List ℕ) → IsSpelled l.text all
      → (units : List ℕ) × IsSpelled (chars_rest l.chars) units × (length all + l.room ≡ 32 + length units);
}
