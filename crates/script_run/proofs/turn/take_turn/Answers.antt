use Rattle.std.proofs.Common.{refl}
use Rattle.script_run.proofs.TurnLaws.{counts_behind, goes_twice, quiet_reply}
use Rattle.script_run.proofs.turn.take_turn.Goals as goal

pub returns : goal.returns
returns g c =
    let quiet = quiet_reply _ _ _ c.in_default.not-Device c.reply_to-reply.ensures.faults in
    record {
      serves = c.settle_and_print.ensures.serves;
      keeps = goes_twice g.D.Disk c.args.volume.now c.reply_to-reply.new.volume c.settle_and_print.new.volume
          c.reply_to-reply.ensures.keeps c.settle_and_print.ensures.keeps quiet;
      faults = counts_behind _ _ _ _ _ _ quiet c.settle_and_print.ensures.faults;
      did = λ first before ready.
          c.settle_and_print.ensures.did first before c.args.volume.now c.args.line.now ready
          (c.reply_to-reply.ensures.replied c.in_default.not-Device first before ready) c.reply_to-reply.ensures.settled;
    }

pub returns-in-Device-clause-did : goal.returns-in-Device-clause-did
returns-in-Device-clause-did g c first before ready = record {
  failed = c.reply_to-reply.ensures.failed c.in-Device.is first before ready;
  same = c.reply_to-reply.ensures.settled;
  unprinted = refl;
}
