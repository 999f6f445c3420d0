use Rattle.std.proofs.Common.{None, arith}
use Rattle.std.proofs.lemmas.List.Sums.{sum_by_more_le}
use Rattle.ntfs_def.specs.declared.run_text.Run.{Run}
use Rattle.data_runs.proofs.PieceLaws.{length-IsRunList, total-is}
use Rattle.extent_edits.proofs.numbers.stored_clusters.Goals as goal

pub overflow_add-stored : goal.overflow_add-stored
overflow_add-stored c =
    let runs = c.args.runs.now in
    let more = sum_by_more_le (λ (run : Run). run.len) runs c.runs.run-index (record { len = 0; lcn = None }) c.runs-test.true in
    omega (arith, c.runs.invariant.few, more, length-IsRunList runs c.requires, total-is runs)
