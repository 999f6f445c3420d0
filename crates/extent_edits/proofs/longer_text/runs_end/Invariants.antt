use Rattle.std.proofs.Common.{◌-◌, ◌≤◌, length}
use Rattle.extent_edits.specs.Texts.{SpellsFirst}
use Rattle.extent_edits.proofs.longer_text.runs_end.Given as goal

abbrev pub invariant-runs : goal.invariant-runs
invariant-runs l = record {
  within : l.whole ≤ length l.runs;
  spells : SpellsFirst l.text l.runs l.at l.whole;
}

abbrev pub decreases-runs : goal.decreases-runs
decreases-runs l = length l.runs - l.whole
