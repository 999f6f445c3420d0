use Rattle.std.proofs.Common.{arith}
use Rattle.sparse_io.proofs.over.byte_below.Goals as goal

pub returns : goal.returns
returns c k = omega (arith, c.type_inv.name k)
