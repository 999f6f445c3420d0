use Rattle.std.proofs.Common.{arith}
use Rattle.frame_disk.proofs.FrameLaws.{frames-emptied}
use Rattle.frame_disk.proofs.frames.FrameDisk.empty.Goals as goal

pub invariant_of-self-clause-agrees : goal.invariant_of-self-clause-agrees
invariant_of-self-clause-agrees g c =
    let framed = c.args.self.now in
    frames-emptied _ _ framed.held.items c.args.slot (omega (arith, c.requires, framed.slots, framed.held.ok)) framed.agrees
