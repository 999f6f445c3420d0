use Rattle.std.proofs.Common.{◌≡◌, ◌*◌}
use Rattle.volume_def.specs.Readable.{WhereReadable}
use Rattle.mft_table.specs.Mft.{MftReads, faults_of, view}
use Rattle.check_dirs.specs.Noted.{NotesBelow}
use Rattle.check_dirs.proofs.noting.note_all.Given as goal

abbrev pub invariant-loop-number : goal.invariant-loop-number
invariant-loop-number g l = record {
  noted : WhereReadable (view g.D.Disk l.fn.mft) (NotesBelow (view g.D.Disk l.fn.mft) l.number l.noting);
  reads : MftReads g.D.Disk l.fn.mft l.mft (20678 * l.number);
  faults : faults_of g.D.Disk l.mft ≡ faults_of g.D.Disk l.fn.mft;
}
