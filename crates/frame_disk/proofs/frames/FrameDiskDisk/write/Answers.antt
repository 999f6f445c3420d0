use Rattle.std.proofs.Common.{◌/◌, subst, sym}
use Rattle.vol_disk.specs.Contents.{IsTold}
use Rattle.std.specs.Prelude.{IsTrue}
use Rattle.frame_disk.specs.Frames.{AreFrames}
use Rattle.frame_disk.proofs.FrameLaws.{frames-written}
use Rattle.frame_disk.proofs.frames.FrameDiskDisk.write.Goals as goal

pub invariant_of-self-clause-agrees : goal.invariant_of-self-clause-agrees
invariant_of-self-clause-agrees g c =
    let framed = c.args.self.now in
    let now = g.D.Disk.now framed.disk in
    let kept = c.forget.ensures.frames now framed.room.items framed.agrees in
    let gone = c.forget.ensures.forgotten now framed.room.items framed.agrees in
    frames-written now _ framed.room.items _ c.args.sector c.write.ensures.others
    (λ told. subst IsTrue c.write.ensures.told told) gone kept
