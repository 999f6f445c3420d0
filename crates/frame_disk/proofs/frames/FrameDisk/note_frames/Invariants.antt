use Rattle.std.proofs.Common.{◌≡◌, ◌<◌, ℕ}
use Rattle.frame_disk.specs.Frames.{IsIn, slot_of}
use Rattle.frame_disk.specs.Framed.{inner_of}
use Rattle.frame_disk.proofs.frames.FrameDisk.note_frames.Given as goal

abbrev pub invariant-loop-k : goal.invariant-loop-k
invariant-loop-k g l =
    (0 < l.k → IsIn l.self.held.items (slot_of l.fn.frame) l.fn.frame)
    × (l.self.room.items ≡ l.fn.self.room.items)
    × (inner_of g.D.Disk l.self ≡ inner_of g.D.Disk l.fn.self)
