use Rattle.std.proofs.Common.{None, ap, sym, arith}
use Rattle.std.proofs.lemmas.List.Sums.{sum_by_more_le}
use Rattle.ntfs_def.specs.declared.run_text.Run.{Run}
use Rattle.ntfs_def.specs.Runs.{total_clusters}
use Rattle.data_runs.proofs.PieceLaws.{length-IsRunList, total-is}
use Rattle.extent_edits.proofs.LongerText.{new-at}
use Rattle.extent_edits.proofs.with_run.copy_of.Goals as goal

abbrev none : Run
none = record { len = 0; lcn = None }

pub put_behind-requires-clause-one : goal.put_behind-requires-clause-one
put_behind-requires-clause-one c =
    let list = rw (sym c.runs-run-items.ensures.runs) at c.runs-run-items.ensures.limits in
    new-at 0 c.runs-run-items.result.now c.runs.run-index none list c.runs-test.true

pub put_behind-requires-clause-total : goal.put_behind-requires-clause-total
put_behind-requires-clause-total c =
    let runs = c.runs-run-items.result.now in
    let list = rw (sym c.runs-run-items.ensures.runs) at c.runs-run-items.ensures.limits in
    let more = sum_by_more_le (λ (run : Run). run.len) runs c.runs.run-index none c.runs-test.true in
    omega (arith, more, ap total_clusters c.runs.invariant, length-IsRunList runs list, total-is runs)
