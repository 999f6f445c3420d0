use Rattle.std.proofs.Common.{ap, arith}
use Rattle.ntfs_def.specs.Runs.{total_clusters}
use Rattle.data_runs.proofs.PieceLaws.{length-IsRunList, total-is}
use Rattle.extent_edits.proofs.with_run.runs_with.Goals as goal

pub overflow_sub-total_clusters : goal.overflow_sub-total_clusters
overflow_sub-total_clusters c =
    let runs = c.all.inside.runs.items in
    let few = length-IsRunList runs c.all.invariant in
    omega (arith, few, total-is runs, ap total_clusters c.all.view_is, c.total_clusters.ensures)
