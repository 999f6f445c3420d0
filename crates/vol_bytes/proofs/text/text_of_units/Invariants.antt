use Rattle.std.proofs.Common.{◌≡◌, ◌≤◌, ◌-◌, ◌++◌, drop, length}
use Rattle.vol_bytes.specs.NameText.{name_text}
use Rattle.vol_bytes.proofs.text.text_of_units.Given as goal

abbrev pub invariant-loop-at : goal.invariant-loop-at
invariant-loop-at l = record {
  within : l.at ≤ length l.units;
  printed : l.text.items ++ name_text (drop l.at l.units) ≡ name_text l.units;
}

abbrev pub decreases-loop-at : goal.decreases-loop-at
decreases-loop-at l = length l.units - l.at
