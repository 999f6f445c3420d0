use Rattle.std.proofs.Common.{◌≡◌, ◌≤◌, ◌*◌, ◌==◌, not, take, length}
use Rattle.std.specs.Prelude.{IsTrue}
use Rattle.std.specs.List.{count_by}
use Rattle.mft_table.specs.Mft.{MftReads, faults_of, view}
use Rattle.file_record.specs.Held.{AreRising}
use Rattle.file_record.specs.Holds.{HoldsAll}
use Rattle.file_record.proofs.HoldLaws.{ComeBefore}
use Rattle.file_record.proofs.load.hold_all.Given as goal

abbrev pub invariant-loop-n : goal.invariant-loop-n
invariant-loop-n g l = record {
  reads : MftReads g.D.Disk l.fn.mft l.mft (2 * count_by (λ n. not (n == l.base.number)) (take l.n-index l.numbers));
  faults : faults_of g.D.Disk l.mft ≡ faults_of g.D.Disk l.fn.mft;
  held : IsTrue (view g.D.Disk l.fn.mft).told → HoldsAll (view g.D.Disk l.fn.mft) l.base.number (take l.n-index l.numbers) l.held.items;
  rising : AreRising l.held.items;
  before : ComeBefore l.numbers l.n-index l.held.items;
  few : length l.held.items ≤ l.n-index;
}
