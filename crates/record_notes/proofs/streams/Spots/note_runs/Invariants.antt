use Rattle.std.proofs.Common.{◌-◌, ◌≤◌}
use Rattle.record_notes.specs.Skips.{NotesRuns}
use Rattle.record_notes.proofs.streams.Spots.note_runs.Given as goal

-- the places that were gone over are noted
abbrev pub invariant-places : goal.invariant-places
invariant-places l = record {
  begun : l.first ≤ l.at;
  noted : NotesRuns l.initial.self.spots.items l.self.spots.items l.runs l.first l.first l.at;
}

abbrev pub decreases-places : goal.decreases-places
decreases-places l = l.end - l.at
