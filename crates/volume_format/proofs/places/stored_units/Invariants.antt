use Rattle.std.proofs.Common.{◌≡◌, take}
use Rattle.volume_format.specs.Options.{stored_units}
use Rattle.volume_format.proofs.places.stored_units.Given as goal

abbrev pub invariant-loop-unit : goal.invariant-loop-unit
invariant-loop-unit l = l.bytes.items ≡ stored_units (take l.unit-index l.label)
