use Rattle.std.proofs.Common.{◌≡◌, ◌<◌, ◌≤◌, ◌-◌, ℕ, length}
use Rattle.std.specs.declared.cmp.Ordering.TheVariants.{Less, Greater}
use Rattle.check_dirs.specs.Entries.{key_at}
use Rattle.check_dirs.proofs.order.place_of.Given as goal

abbrev pub invariant-halves : goal.invariant-halves
invariant-halves g l = record {
  within : l.low ≤ l.high;
  inside : l.high ≤ length l.entries;
  below : (k : ℕ) → k < l.low → g.C.Collation.order l.order (key_at l.entries k) l.key ≡ Less;
  above : (k : ℕ) → l.high ≤ k → k < length l.entries → g.C.Collation.order l.order (key_at l.entries k) l.key ≡ Greater;
}

abbrev pub decreases-halves : goal.decreases-halves
decreases-halves g l = l.high - l.low
