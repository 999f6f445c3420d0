use Rattle.std.proofs.Common.{◌≡◌, ◌≤◌, take}
use Rattle.std.specs.Prelude.{sum_by}
use Rattle.ntfs_def.specs.Runs.{total_clusters}
use Rattle.edit_def.specs.Purses.{run_size}
use Rattle.extent_edits.proofs.numbers.stored_clusters.Given as goal

abbrev pub invariant-runs : goal.invariant-runs
invariant-runs l = record {
  sum : l.stored ≡ sum_by run_size (take l.run-index l.runs);
  few : l.stored ≤ total_clusters (take l.run-index l.runs);
}
