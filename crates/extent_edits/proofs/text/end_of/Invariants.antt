use Rattle.std.proofs.Common.{◌≡◌, ◌-◌, ◌≤◌, ◌++◌, length, take, drop}
use Rattle.ntfs_def.specs.Runs.{clusters_of}
use Rattle.extent_edits.specs.Texts.{SpellsFirst}
use Rattle.extent_edits.proofs.text.end_of.Given as goal

abbrev pub invariant-runs : goal.invariant-runs
invariant-runs l = record {
  within : l.whole ≤ length l.runs;
  spells : SpellsFirst l.text l.runs l.at l.whole;
  cut : take l.count (clusters_of l.runs) ≡ clusters_of (take l.whole l.runs) ++ take l.left (clusters_of (drop l.whole l.runs));
}

abbrev pub decreases-runs : goal.decreases-runs
decreases-runs l = length l.runs - l.whole
