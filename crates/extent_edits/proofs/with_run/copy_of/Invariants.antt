use Rattle.std.proofs.Common.{◌≡◌, take}
use Rattle.extent_edits.proofs.with_run.copy_of.Given as goal

abbrev pub invariant-runs : goal.invariant-runs
invariant-runs l = l.copy ≡ take l.run-index l.run-items
