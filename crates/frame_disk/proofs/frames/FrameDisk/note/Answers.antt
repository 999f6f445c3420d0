use Rattle.std.proofs.Common.{arith, ◌<◌, length, subst, sym}
use Rattle.frame_disk.specs.Frames.{slot_of}
use Rattle.frame_disk.proofs.FrameLaws.{frames-noted}
use Rattle.frame_disk.proofs.frames.FrameDisk.note.Goals as goal

pub invariant_of-self-clause-agrees : goal.invariant_of-self-clause-agrees
invariant_of-self-clause-agrees g c =
    let framed = c.args.self.now in
    let within : slot_of c.args.frame < length framed.held.items = omega (arith, framed.slots, framed.held.ok) in
    rw c.slot_of.ensures (frames-noted _ _ framed.held.items c.args.frame within c.requires framed.agrees)
