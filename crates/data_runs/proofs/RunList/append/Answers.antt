use Rattle.std.proofs.Common.{◌+◌, ◌^◌, ◌≤◌, arith, ap}
use Rattle.ntfs_def.specs.Runs.{total_clusters}
use Rattle.data_runs.proofs.RunListLaws.{IsRunListFrom-push}
use Rattle.data_runs.proofs.RunList.append.Goals as goal

pub invariant_of-self-2 : goal.invariant_of-self-2
invariant_of-self-2 c =
    let same = ap total_clusters c.self.view_is in
    let fits : 0 + (total_clusters c.self.inside.runs.items + c.args.run.len) ≤ 2 ^ 62 = omega (arith, c.requires.total, same) in
    rw c.in_ok-push.ensures.ok
    (IsRunListFrom-push 0 c.self.inside.runs.items c.args.run c.self.invariant c.requires.some c.requires.reach fits)
