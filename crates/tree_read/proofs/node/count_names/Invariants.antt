use Rattle.std.proofs.Common.{◌≡◌, ◌+◌, ◌≤◌, drop}
use Rattle.file_record.specs.Held.{attributes_held, parts_held}
use Rattle.file_record.specs.Left.{attributes_left}
use Rattle.tree_read.specs.Parts.{shown_names}
use Rattle.tree_read.proofs.node.count_names.Given as goal

-- the names among the parts that were passed over are counted
abbrev pub invariant-loop-place : goal.invariant-loop-place
invariant-loop-place l = record {
  left : attributes_left l.attributes ≡ drop l._place (attributes_held l.file);
  counted : l.count + shown_names (drop l._place (parts_held l.file)) ≡ shown_names (parts_held l.file);
  few : l.count ≤ l._place;
}
