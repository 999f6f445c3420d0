use Rattle.std.proofs.Common.{arith}
use Rattle.make_places.proofs.PlacedLaws.{all-units}
use Rattle.make_places.proofs.find.look_at_units.Goals as goal

pub returns : goal.returns
returns c = all-units c.args.name.now (λ k. omega (arith, c.type_inv.name k))
