use Rattle.std.proofs.Common.{◌≡◌, ◌+◌, ◌-◌, ◌*◌, ◌≤◌, ◌<◌, ℕ, length}
use Rattle.list_laws.specs.Bits.{bit_in}
use Rattle.record_notes.proofs.bits.first_difference.Given as goal

abbrev pub invariant-loop-i : goal.invariant-loop-i
invariant-loop-i l = (k : ℕ) → 8 * l.from ≤ k → k < 8 * (l.from + l.i) → k < 8 * length l.bits
    → bit_in l.piece (k - 8 * l.from) ≡ bit_in l.bits k
