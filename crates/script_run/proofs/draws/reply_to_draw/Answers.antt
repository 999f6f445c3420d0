use Rattle.std.proofs.Common.{ap, subst}
use Rattle.cmd_lang.specs.Sayable.{IsSayable}
use Rattle.script_run.specs.Says.{SaysDraw}
use Rattle.script_run.proofs.ReplyLaws.{of_command}
use Rattle.script_run.proofs.ShownLaws.{sayable-shown}
use Rattle.script_run.proofs.TurnLaws.{goes_none}
use Rattle.script_run.proofs.DrawLaws.{replied_draw, says_draw}
use Rattle.script_run.proofs.draws.reply_to_draw.Goals as goal

pub apply-requires-clause-shown : goal.apply-requires-clause-shown
apply-requires-clause-shown g c = sayable-shown c.in-Ok.command c.in-Ok.ensures.sayable

pub returns-in-Ok-clause-did : goal.returns-in-Ok-clause-did
returns-in-Ok-clause-did g c first before ready =
    replied_draw g.D.Disk first c.args.volume.now c.apply.new.self before c.args.drawn c.in-Ok.command c.apply.result c.in-Ok.ensures.line
    (λ other. of_command SaysDraw g.D.Disk first c.args.volume.now c.apply.new.self before _ 0 c.in-Ok.command c.apply.result
    (says_draw c.args.drawn c.in-Ok.command c.in-Ok.ensures.line) (c.apply.ensures.marks other)
    (c.apply.ensures.applied other first before ready))
    (λ broken. c.apply.ensures.failed broken first before ready)

pub returns-in-Err-clause-keeps : goal.returns-in-Err-clause-keeps
returns-in-Err-clause-keeps g c = goes_none g.D.Disk c.args.volume.now
