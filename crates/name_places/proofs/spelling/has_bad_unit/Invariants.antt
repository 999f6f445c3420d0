use Rattle.std.proofs.Common.{◌≡◌, drop}
use Rattle.std.specs.List.{list_any}
use Rattle.tree_model.specs.Cases.{is_bad_unit}
use Rattle.name_places.proofs.spelling.has_bad_unit.Given as goal

abbrev pub invariant-units : goal.invariant-units
invariant-units l = list_any is_bad_unit (drop l.unit-index l.name) ≡ list_any is_bad_unit l.name
