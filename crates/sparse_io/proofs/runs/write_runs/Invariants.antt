use Rattle.std.proofs.Common.{◌≡◌, ◌+◌, ◌-◌, ◌≤◌, length, take}
use Rattle.ntfs_def.specs.Runs.{spot_of}
use Rattle.vol_stage.specs.Staged.{StagesOnly, places}
use Rattle.volume_def.specs.Values.{pieces_touched}
use Rattle.attr_store.specs.Mft.{KeepsDisk, faults_of, stage_of, view}
use Rattle.attr_store.specs.Streams.{IsSeam}
use Rattle.sparse_io.specs.Overwritten.{touched_sectors}
use Rattle.sparse_io.proofs.RunWrites.{WritesPlaced}
use Rattle.sparse_io.proofs.runs.write_runs.Given as goal

-- the bytes in front were written
abbrev pub invariant-pieces : goal.invariant-pieces
invariant-pieces g l = record {
  reach : l.done ≤ length l.bytes;
  seam : IsSeam l.at l.done (length l.bytes);
  disk : KeepsDisk g.D.Disk l.fn.mft l.mft;
  faults : faults_of g.D.Disk l.mft ≡ faults_of g.D.Disk l.fn.mft;
  few : length (places g.D.Disk (stage_of g.D.Disk l.mft))
      ≤ length (places g.D.Disk (stage_of g.D.Disk l.fn.mft)) + pieces_touched l.at l.done;
  places : StagesOnly g.D.Disk (touched_sectors (view g.D.Disk l.fn.mft).layout (spot_of l.runs) l.at (length l.bytes))
      (stage_of g.D.Disk l.fn.mft) (stage_of g.D.Disk l.mft);
  written : WritesPlaced (view g.D.Disk l.fn.mft) (view g.D.Disk l.mft) (spot_of l.runs) l.at (length l.bytes) (take l.done l.bytes);
}

abbrev pub decreases-pieces : goal.decreases-pieces
decreases-pieces g l = length l.bytes - l.done
