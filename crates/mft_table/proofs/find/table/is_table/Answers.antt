use Rattle.std.proofs.Common.{ap, arith}
use Rattle.std.specs.Prelude.{sum_by}
use Rattle.ntfs_def.specs.declared.run_text.Run.{Run}
use Rattle.mft_table.proofs.TableRuns.{clusters-IsRunList}
use Rattle.mft_table.proofs.find.table.is_table.Goals as goal

pub total_clusters-requires : goal.total_clusters-requires
total_clusters-requires c =
    let same = ap (sum_by (λ (run : Run). run.len)) c.runs.ensures.runs in
    omega (arith, same, clusters-IsRunList 0 c.args.runs.now (omega arith) c.runs.ensures.limits)
