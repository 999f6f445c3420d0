use Rattle.std.proofs.Common.{◌≡◌, ℕ, ◌+◌, ◌-◌, ◌<◌, ◌≤◌, length}
use Rattle.std.specs.Prelude.{◌⊎◌}
use Rattle.list_laws.specs.Bits.{bit_in}
use Rattle.cluster_bitmap.specs.Words.{bit_for}
use Rattle.stored_bits.proofs.flags.put_flags.Given as goal

abbrev pub invariant-flags : goal.invariant-flags
invariant-flags l = record {
  len : length l.bytes ≡ length l.initial.bytes;
  low : l.from ≤ l.flag;
  high : l.flag ≤ l.from + l.len;
  here : (k : ℕ) → l.from ≤ k → k < l.flag → bit_in l.bytes k ≡ bit_for l.value;
  others : (k : ℕ) → (k < l.from) ⊎ (l.flag ≤ k) → bit_in l.bytes k ≡ bit_in l.initial.bytes k;
}

abbrev pub decreases-flags : goal.decreases-flags
decreases-flags l = l.from + l.len - l.flag
