use Rattle.std.proofs.Common.{◌≡◌, ◌<◌, ◌≤◌, ℕ}
use Rattle.frame_disk.specs.Frames.{IsIn}
use Rattle.frame_disk.specs.Framed.{inner_of}
use Rattle.frame_disk.proofs.frames.FrameDisk.empty_slots.Given as goal

abbrev pub invariant-loop-k : goal.invariant-loop-k
invariant-loop-k g l =
    ((s p : ℕ) → l.fn.slot ≤ s → s < l.k → IsIn l.self.held.items s p → ⊥)
    × (l.self.room.items ≡ l.fn.self.room.items)
    × (inner_of g.D.Disk l.self ≡ inner_of g.D.Disk l.fn.self)
