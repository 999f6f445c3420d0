use Rattle.std.proofs.Common.{◌≡◌, ℕ, length}
use Rattle.frame_disk.specs.Frames.{IsIn}
use Rattle.frame_disk.proofs.frames.empty_slots.Given as goal

abbrev pub invariant-loop-k : goal.invariant-loop-k
invariant-loop-k l = ((s p : ℕ) → IsIn l.held.items s p → ⊥) × (length l.held.items ≡ l.k)
