use Rattle.std.proofs.Common.{◌≡◌, ◌≤◌, ◌-◌, length}
use Rattle.ntfs_def.specs.AttributeList.{HasListEntries, list_entry_place}
use Rattle.attr_list.proofs.shape.count_of.Given as goal

abbrev pub invariant-loop-at : goal.invariant-loop-at
invariant-loop-at l = record {
  place : l.at ≡ list_entry_place l.bytes l.count;
  each : HasListEntries l.bytes l.count;
  inside : l.at ≤ length l.bytes;
  few : l.count ≤ l.at;
}

abbrev pub decreases-loop-at : goal.decreases-loop-at
decreases-loop-at l = length l.bytes - l.at
