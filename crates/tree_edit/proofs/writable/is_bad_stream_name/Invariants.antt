use Rattle.std.proofs.Common.{◌≡◌, drop}
use Rattle.std.specs.List.{list_any}
use Rattle.tree_edit.specs.Writable.{is_bad_stream_unit}
use Rattle.tree_edit.proofs.writable.is_bad_stream_name.Given as goal

abbrev pub invariant-units : goal.invariant-units
invariant-units l = list_any is_bad_stream_unit (drop l.unit-index l.name) ≡ list_any is_bad_stream_unit l.name
