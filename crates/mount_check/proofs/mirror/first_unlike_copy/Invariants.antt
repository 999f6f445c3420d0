use Rattle.std.proofs.Common.{◌≡◌, ◌*◌, ◌<◌, ℕ, IsTrue}
use Rattle.volume_def.specs.VersionClause.{MeetsMirror}
use Rattle.mft_table.specs.Mft.{MftReads, faults_of, view}
use Rattle.mount_check.specs.Views.{HasComeTo}
use Rattle.mount_check.proofs.mirror.first_unlike_copy.Given as goal

-- the records so far have their copies
abbrev pub invariant-loop-n : goal.invariant-loop-n
invariant-loop-n g l = record {
  reads : MftReads g.D.Disk l.fn.mft l.mft (4 * l.n);
  faults : faults_of g.D.Disk l.mft ≡ faults_of g.D.Disk l.fn.mft;
  before : IsTrue (view g.D.Disk l.fn.mft).told → HasComeTo (view g.D.Disk l.fn.mft) 11
      → (m : ℕ) → m < l.n → MeetsMirror (view g.D.Disk l.fn.mft) m;
}
