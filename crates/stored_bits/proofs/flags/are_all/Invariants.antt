use Rattle.std.proofs.Common.{◌≡◌, ℕ, ◌+◌, ◌-◌, ◌<◌, ◌≤◌, Some}
use Rattle.std.specs.Prelude.{slice_get}
use Rattle.stored_bits.proofs.flags.are_all.Given as goal

abbrev pub invariant-flags : goal.invariant-flags
invariant-flags l = record {
  low : l.at ≤ l.flag;
  high : l.flag ≤ l.at + l.len;
  each : (k : ℕ) → l.at ≤ k → k < l.flag → slice_get l.bits k ≡ Some l.taken;
}

abbrev pub decreases-flags : goal.decreases-flags
decreases-flags l = l.at + l.len - l.flag
