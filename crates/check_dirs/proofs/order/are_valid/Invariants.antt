use Rattle.std.proofs.Common.{◌<◌, ℕ}
use Rattle.std.specs.Prelude.{IsTrue}
use Rattle.check_dirs.specs.Entries.{key_at}
use Rattle.check_dirs.proofs.order.are_valid.Given as goal

abbrev pub invariant-loop-i : goal.invariant-loop-i
invariant-loop-i g l = (k : ℕ) → k < l.i → IsTrue (g.C.Collation.valid l.order (key_at l.entries k))
