use Rattle.std.proofs.Common.{◌≡◌, ◌*◌, All, IsTrue, true, map, take}
use Rattle.mft_table.specs.Mft.{MftReads, faults_of, view}
use Rattle.check_dirs.specs.Directory.{MeetsLinks}
use Rattle.check_dirs.specs.Notes.{IsNoted, link_noted}
use Rattle.check_dirs.specs.Seen.{HasMarks}
use Rattle.check_dirs.proofs.directory.meet_notes.Given as goal

abbrev pub invariant-loop-note : goal.invariant-loop-note
invariant-loop-note g l = record {
  entries : l.seen.entries ≡ l.fn.seen.entries;
  marks : HasMarks l.seen;
  met : IsTrue (view g.D.Disk l.fn.mft).told → All (IsNoted (view g.D.Disk l.fn.mft)) l.fn.notes
      → MeetsLinks true l.fn.seen l.seen (map (link_noted (view g.D.Disk l.fn.mft)) (take l.note-index l.fn.notes));
  reads : MftReads g.D.Disk l.fn.mft l.mft (2 * l.note-index);
  faults : faults_of g.D.Disk l.mft ≡ faults_of g.D.Disk l.fn.mft;
}
