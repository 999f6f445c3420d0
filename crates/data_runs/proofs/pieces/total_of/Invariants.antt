use Rattle.std.proofs.Common.{◌≡◌, length, take}
use Rattle.ntfs_def.specs.Runs.{clusters_of}
use Rattle.data_runs.proofs.pieces.total_of.Given as goal

abbrev pub invariant-runs : goal.invariant-runs
invariant-runs l = l.total ≡ length (clusters_of (take l.run-index l.runs))
