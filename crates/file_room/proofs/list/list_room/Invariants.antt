use Rattle.std.proofs.Common.{◌≡◌, ◌+◌, ◌*◌, ◌≤◌, drop}
use Rattle.volume_def.specs.Room.{longest_name}
use Rattle.tree_read.specs.Held.{attributes_held, parts_held}
use Rattle.tree_read.specs.Left.{attributes_left}
use Rattle.file_room.specs.Asked.{list_len_by}
use Rattle.file_room.proofs.ListLaws.{longest_behind}
use Rattle.file_room.proofs.list.list_room.Given as goal

-- the parts that were passed over are counted
abbrev pub invariant-loop-place : goal.invariant-loop-place
invariant-loop-place l = record {
  left : attributes_left l.attributes ≡ drop l._place (attributes_held l.file);
  listed : l.len + list_len_by (drop l._place (parts_held l.file)) ≡ list_len_by (parts_held l.file);
  longest : longest_behind l.units (drop l._place (parts_held l.file)) ≡ longest_name (parts_held l.file);
  short : l.len ≤ 1056 * l._place;
  few : l.units ≤ 512;
}
