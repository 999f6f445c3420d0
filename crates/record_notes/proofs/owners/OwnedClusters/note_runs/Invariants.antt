use Rattle.std.proofs.Common.{◌≡◌, ◌++◌, List, take}
use Rattle.ntfs_def.specs.declared.run_text.Run.{Run}
use Rattle.record_notes.specs.Owners.{RunsNote}
use Rattle.record_notes.proofs.owners.OwnedClusters.note_runs.Given as goal

abbrev pub invariant-loop-run : goal.invariant-loop-run
invariant-loop-run l = record {
  clusters : l.self.clusters ≡ l.fn.self.clusters;
  noted : (runs : List Run) → RunsNote runs l.fn.self → RunsNote (runs ++ take l.run-index l.list) l.self;
}
