use Rattle.std.proofs.Common.{◌≡◌, ◌++◌, drop}
use Rattle.ntfs_def.specs.Runs.{IsRunList, clusters_of}
use Rattle.extent_edits.proofs.behind.runs_behind.Given as goal

-- the runs that were taken, and what is left of those to come, are the clusters behind
abbrev pub invariant-runs : goal.invariant-runs
invariant-runs l = record {
  list : IsRunList l.behind.items;
  clusters : clusters_of l.behind.items ++ drop l.inside (clusters_of (drop l.run-index l.run-items))
      ≡ drop l.count (clusters_of l.run-items);
}
