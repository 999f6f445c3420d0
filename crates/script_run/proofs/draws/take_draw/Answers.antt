use Rattle.std.proofs.Common.{refl, subst, ◌∙◌}
use Rattle.vol_disk.specs.Count.{Rose}
use Rattle.script_run.specs.Draws.{RepliedDraw}
use Rattle.tree_ops.specs.Volumes.{disk_under}
use Rattle.script_run.proofs.TurnLaws.{goes_reading, goes_twice, quiet_reply}
use Rattle.script_run.proofs.DrawLaws.{answered, broke_settling}
use Rattle.script_run.proofs.draws.take_draw.Goals as goal

pub returns-in-Device-clause-did : goal.returns-in-Device-clause-did
returns-in-Device-clause-did g c first before ready = record {
  failed =
      subst (RepliedDraw g.D.Disk first before c.args.volume.now c.args.drawn c.reply_to_draw.new.volume) c.in-Device.is
      (c.in_ok-reply.ensures.did first before ready);
  same = c.in_ok-reply.ensures.settled;
}

pub returns-in-Ok : goal.returns-in-Ok
returns-in-Ok g c =
    let quiet = quiet_reply _ _ _ c.in_default.not-Device c.in_ok-reply.ensures.faults in
    let reads = c.settle.ensures.reads in
    record {
      serves = λ _. c.in-Ok.ensures.serves;
      keeps = goes_twice g.D.Disk c.args.volume.now c.reply_to_draw.new.volume c.settle.new.self c.in_ok-reply.ensures.keeps
          (goes_reading g.D.Disk c.reply_to_draw.new.volume c.settle.new.self reads) quiet;
      faults = c.in-Ok.ensures.faults ∙ quiet;
      answered = c.in_default.not-Device;
      did = λ first before ready.
          answered g.D.Disk first before c.args.volume.now c.args.drawn c.in_ok-reply.reply c.reply_to_draw.new.volume c.settle.new.self
          c.in_default.not-Device (c.in_ok-reply.ensures.did first before ready) reads c.in_ok-reply.ensures.settled
          c.in-Ok.ensures.settled;
    }

pub returns-in-Err : goal.returns-in-Err
returns-in-Err g c =
    let quiet = quiet_reply _ _ _ c.in_default.not-Device c.in_ok-reply.ensures.faults in
    let reads = c.settle.ensures.reads in
    record {
      serves = λ other. absurd (other refl);
      keeps = goes_twice g.D.Disk c.args.volume.now c.reply_to_draw.new.volume c.settle.new.self c.in_ok-reply.ensures.keeps
          (goes_reading g.D.Disk c.reply_to_draw.new.volume c.settle.new.self reads) quiet;
      faults = subst (λ count. Rose count (g.D.Disk.faults (disk_under g.D.Disk c.settle.new.self))) quiet c.in-Err.ensures.faults;
      answered = tt;
      did = λ first before ready.
          broke_settling g.D.Disk first before c.args.volume.now c.args.drawn c.in_ok-reply.reply c.reply_to_draw.new.volume
          c.settle.new.self c.in_default.not-Device ready (c.in_ok-reply.ensures.did first before ready) reads
          c.in_ok-reply.ensures.settled c.in-Err.ensures.unsettled;
    }
