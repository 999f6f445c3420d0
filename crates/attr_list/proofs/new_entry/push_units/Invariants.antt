use Rattle.std.proofs.Common.{◌≡◌, ◌+◌, ◌*◌, ◌++◌, length, take}
use Rattle.attr_list.specs.Edit.{name_bytes}
use Rattle.attr_list.proofs.new_entry.push_units.Given as goal

abbrev pub invariant-loop-unit : goal.invariant-loop-unit
invariant-loop-unit l = record {
  name : l.bytes.items ≡ l.initial.bytes.items ++ name_bytes (take l.unit-index l.units);
  room : length l.bytes.items ≡ length l.initial.bytes.items + 2 * l.unit-index;
}
