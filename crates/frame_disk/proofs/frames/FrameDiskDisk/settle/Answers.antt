use Rattle.std.proofs.Common.{subst, sym}
use Rattle.frame_disk.specs.Frames.{AreFrames}
use Rattle.frame_disk.proofs.frames.FrameDiskDisk.settle.Goals as goal

pub invariant_of-self-clause-agrees : goal.invariant_of-self-clause-agrees
invariant_of-self-clause-agrees g c =
    let framed = c.args.self.now in
    subst (λ now. AreFrames now framed.room.items framed.held.items) (sym c.settle.ensures.now) framed.agrees
