use Rattle.session_def.specs.Session.{last_of}
use Rattle.script_run.proofs.TellLaws.{ran_told}
use Rattle.script_run.proofs.made.make_lines.Goals as goal

pub returns-in-Ok-clause-ran : goal.returns-in-Ok-clause-ran
returns-in-Ok-clause-ran g c first left ready none =
    let d = c.in-Ok.ensures.did first ready none in
    ran_told g.D.Disk first c.args.seed c.args.count _ c.in-Ok.tally c.tell.result c.take_draws.new.volume c.tell.new.volume left _ _ d
    c.in-Ok.ensures.sum c.tell.ensures.settled (c.tell.ensures.did first.view (last_of first d.turns) d.ready)

pub returns-in-Err-clause-ran : goal.returns-in-Err-clause-ran
returns-in-Err-clause-ran g c first left ready none = c.in-Err.ensures.did first ready none left _
