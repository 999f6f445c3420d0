use Rattle.std.proofs.Common.{◌≡◌, ◌<◌, ◌+◌, ℕ}
use Rattle.std.specs.declared.cmp.Ordering.TheVariants.{Less}
use Rattle.check_dirs.specs.Entries.{key_at}
use Rattle.check_dirs.proofs.order.rise.Given as goal

abbrev pub invariant-loop-i : goal.invariant-loop-i
invariant-loop-i g l = (k : ℕ) → k + 1 < l.i → g.C.Collation.order l.order (key_at l.entries k) (key_at l.entries (k + 1)) ≡ Less
