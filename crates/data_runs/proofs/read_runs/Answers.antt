use Rattle.std.proofs.Common.{sym}
use Rattle.ntfs_def.proofs.RunsInLaws.{runs_in-means}
use Rattle.data_runs.proofs.Refusals.{runs_in-refused}
use Rattle.data_runs.proofs.read_runs.Goals as goal

pub returns-in-Ok : goal.returns-in-Ok
returns-in-Ok c = sym (runs_in-means c.args.text.now c.in-Ok.runs c.in-Ok.ensures.ok)

pub returns-in-Err-2 : goal.returns-in-Err-2
returns-in-Err-2 c = sym (runs_in-refused c.args.text.now c.in-Err.fault
    (λ is. let yes = c.is_memory.ensures.1 is in let no = c.if-is_memory.false in cc) c.in-Err.ensures.err)
