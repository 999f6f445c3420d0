use Rattle.std.proofs.Common.{◌≡◌, ℕ, take}
use Rattle.std.specs.Prelude.{IsTrue}
use Rattle.std.specs.List.{Contains}
use Rattle.volume_def.specs.IndexesClause.{MeetsIndexes}
use Rattle.mft_table.specs.Mft.{MftReads, faults_of, view}
use Rattle.check_dirs.specs.Notes.{AreNotes}
use Rattle.check_dirs.proofs.volume.first_wrong_among.Given as goal

abbrev pub invariant-loop-number : goal.invariant-loop-number
invariant-loop-number g l = record {
  right : IsTrue (view g.D.Disk l.fn.mft).told → AreNotes (view g.D.Disk l.fn.mft) l.fn.notes
      → (f : ℕ) → Contains (take l.number-index l.fn.wanted) f → MeetsIndexes (view g.D.Disk l.fn.mft) f;
  reads : (reads : ℕ) × MftReads g.D.Disk l.fn.mft l.mft reads;
  faults : faults_of g.D.Disk l.mft ≡ faults_of g.D.Disk l.fn.mft;
}
