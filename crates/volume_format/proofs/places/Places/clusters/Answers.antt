use Rattle.std.proofs.Common.{arith}
use Rattle.volume_format.proofs.PlaceLaws.{quotient-some}
use Rattle.volume_format.proofs.places.Places.clusters.Goals as goal

pub returns-clause-some : goal.returns-clause-some
returns-clause-some c =
    let first = quotient-some c.self.inside.size 8192 c.self.invariant.size (omega arith) in
    omega (arith, c.self.invariant.items)
