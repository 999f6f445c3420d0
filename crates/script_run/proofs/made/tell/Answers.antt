use Rattle.std.proofs.Common.{[], refl}
use Rattle.vol_disk.specs.Stream.{IsAppended, IsAppendedPart}
use Rattle.tree_model.specs.declared.command.Command.TheVariants as command
use Rattle.script_run.specs.Says.{SaysDraw}
use Rattle.script_run.proofs.ReplyLaws.{failed_command}
use Rattle.script_run.proofs.TellLaws.{printed, still_ready}
use Rattle.script_run.proofs.made.tell.Goals as goal

pub returns-in-Ok-print_made-clause-did : goal.returns-in-Ok-print_made-clause-did
returns-in-Ok-print_made-clause-did g c first last ready =
    let applied = c.in-Ok.ensures.applied (λ e. cc) first last ready in (
      still_ready g.D.Disk first last c.args.volume.now c.apply.new.self _ ready applied (c.in-Ok.ensures.still (λ e. cc) refl),
      printed g.D.Disk IsAppended first last c.apply.new.self c.in-Ok.answer c.args.tally.now.oks c.args.tally.now.nos _ _ applied
          c.in-Ok-print_made.ensures.text,
    )

pub returns-in-Ok-clause-did : goal.returns-in-Ok-clause-did
returns-in-Ok-clause-did g c first last ready =
    let applied = c.in-Ok.ensures.applied (λ e. cc) first last ready in (
      still_ready g.D.Disk first last c.args.volume.now c.apply.new.self _ ready applied (c.in-Ok.ensures.still (λ e. cc) refl),
      printed g.D.Disk IsAppendedPart first last c.apply.new.self c.in-Ok.answer c.args.tally.now.oks c.args.tally.now.nos _ _ applied
          c.in-Err.ensures.part,
    )

pub returns-in-No-clause-did : goal.returns-in-No-clause-did
returns-in-No-clause-did g c first last ready = (
  still_ready g.D.Disk first last c.args.volume.now c.apply.new.self _ ready (c.in-No.ensures.applied (λ e. cc) first last ready)
      (c.in-No.ensures.still (λ e. cc) refl),
  refl,
)

pub returns-clause-did : goal.returns-clause-did
returns-clause-did g c first last ready = (
  failed_command SaysDraw g.D.Disk first c.apply.new.self last [] 0 command.Df refl (c.in-Device.ensures.failed refl first last ready),
  refl,
)
