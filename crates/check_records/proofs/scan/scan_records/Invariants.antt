use Rattle.std.proofs.Common.{◌≡◌, ◌<◌, ◌*◌, ℕ}
use Rattle.std.specs.Prelude.{IsTrue}
use Rattle.vol_stage.specs.Staged.{StageReads, disk_of}
use Rattle.volume_def.specs.Files.{records_of}
use Rattle.volume_def.specs.ShapeClause.{MeetsShape}
use Rattle.mft_table.specs.Tables.{reader_layout}
use Rattle.record_notes.specs.Facts.{FactsNote}
use Rattle.check_records.specs.Views.{IsOfVolume, stage_view}
use Rattle.check_records.proofs.scan.scan_records.Given as goal

abbrev pub invariant-loop-n : goal.invariant-loop-n
invariant-loop-n g l = record {
  shape : IsTrue (stage_view g.D.Disk l.fn.stage (reader_layout l.blocks)).told
      → (k : ℕ) → k < l.n → MeetsShape (stage_view g.D.Disk l.fn.stage (reader_layout l.blocks)) k;
  facts : IsTrue (stage_view g.D.Disk l.fn.stage (reader_layout l.blocks)).told
      → FactsNote (records_of (stage_view g.D.Disk l.fn.stage (reader_layout l.blocks))) l.n l.facts;
  volume : IsOfVolume (reader_layout l.blocks) l.facts;
  reads : StageReads g.D.Disk l.fn.stage l.stage (2 * l.n);
  faults : g.D.Disk.faults (disk_of g.D.Disk l.stage) ≡ g.D.Disk.faults (disk_of g.D.Disk l.fn.stage);
}
