use Rattle.std.proofs.Common.{◌≡◌, ℕ, ◌-◌, ◌<◌, ◌≤◌, max, length}
use Rattle.list_laws.specs.Bits.{bit_in}
use Rattle.record_notes.proofs.bits.fill.Given as goal

abbrev pub invariant-bytes : goal.invariant-bytes
invariant-bytes l = record {
  len : length l.bits ≡ length l.initial.bits;
  low : l.from ≤ l.at;
  high : l.at ≤ max l.from l.end;
  clear : (k : ℕ) → l.from ≤ k → k < l.at → bit_in l.initial.bits k ≡ 0;
  set : (k : ℕ) → l.from ≤ k → k < l.at → bit_in l.bits k ≡ 1;
  below : (k : ℕ) → k < l.from → bit_in l.bits k ≡ bit_in l.initial.bits k;
  above : (k : ℕ) → l.at ≤ k → bit_in l.bits k ≡ bit_in l.initial.bits k;
}

abbrev pub decreases-bytes : goal.decreases-bytes
decreases-bytes l = l.end - l.at
