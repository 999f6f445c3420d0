use Rattle.std.proofs.Common.{◌≤◌, ◌^◌, sym, subst, arith}
use Rattle.ntfs_def.specs.Runs.{total_clusters}
use Rattle.file_clauses.proofs.TotalLaws.{IsRunListFrom-total}
use Rattle.file_clauses.proofs.extents.clusters_of.Goals as goal

pub total_of-requires : goal.total_of-requires
total_of-requires c =
    let few = IsRunListFrom-total 0 c.args.runs.now (omega arith) c.runs.ensures.limits in
    subst (λ runs. total_clusters runs ≤ 2 ^ 62) (sym c.runs.ensures.runs) (omega arith)
