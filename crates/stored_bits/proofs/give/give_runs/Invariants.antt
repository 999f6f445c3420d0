use Rattle.std.proofs.Common.{◌≡◌, ◌+◌, ◌*◌, ◌≤◌, length, take}
use Rattle.std.specs.Prelude.{IsTrue, sum_by}
use Rattle.vol_stage.specs.Staged.{places}
use Rattle.mft_table.specs.Mft.{faults_of, mounted_of, stage_of, view}
use Rattle.edit_def.specs.Purses.{run_size}
use Rattle.record_edits.specs.Given.{AreOwned, GivesBack}
use Rattle.stored_bits.specs.Given.{KeepsDevice}
use Rattle.stored_bits.specs.HeldBits.{ShowsStored, StagesBits, StaysHeld}
use Rattle.stored_bits.proofs.give.give_runs.Given as goal

abbrev pub invariant-loop-run : goal.invariant-loop-run
invariant-loop-run g l = record {
  device : KeepsDevice g.D.Disk l.fn.mft l.mft;
  faults : faults_of g.D.Disk l.mft ≡ faults_of g.D.Disk l.fn.mft;
  few : length (places g.D.Disk (stage_of g.D.Disk l.mft))
      ≤ length (places g.D.Disk (stage_of g.D.Disk l.fn.mft)) + 2 * sum_by run_size (take l.run-index l.runs);
  places : IsTrue (view g.D.Disk l.fn.mft).told → StagesBits g.D.Disk (view g.D.Disk l.fn.mft) l.fn.mft l.mft;
  stays : IsTrue (view g.D.Disk l.fn.mft).told → StaysHeld (view g.D.Disk l.fn.mft) (view g.D.Disk l.mft)
      (mounted_of g.D.Disk l.mft).upcase l.bits.file l.bits.found;
  gave : IsTrue (view g.D.Disk l.fn.mft).told → AreOwned (view g.D.Disk l.fn.mft) l.runs
      → GivesBack (view g.D.Disk l.fn.mft) (view g.D.Disk l.mft) (take l.run-index l.runs)
      × ShowsStored (view g.D.Disk l.mft) (mounted_of g.D.Disk l.mft);
}
