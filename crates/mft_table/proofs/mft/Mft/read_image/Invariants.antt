use Rattle.std.proofs.Common.{◌≡◌, ◌+◌, ◌-◌, ◌*◌, ◌≤◌, ◌++◌, drop, length}
use Rattle.vol_disk.specs.Contents.{IsTold, sector_in}
use Rattle.vol_stage.specs.Staged.{image}
use Rattle.volume_def.specs.Values.{pieces_touched}
use Rattle.mft_table.specs.Mft.{MftReads, faults_of, stage_of}
use Rattle.mft_table.specs.Streams.{IsSeam, image_bytes}
use Rattle.mft_table.proofs.mft.Mft.read_image.Given as goal

-- what was read stands in front, and each piece of it was asked for once
abbrev pub invariant-pieces : goal.invariant-pieces
invariant-pieces g l = record {
  within : l.done ≤ length l.initial.into;
  cut : IsSeam l.skip l.done (length l.initial.into);
  read : IsTold (image g.D.Disk (stage_of g.D.Disk l.initial.self)) → l.into
      ≡ image_bytes (sector_in (image g.D.Disk (stage_of g.D.Disk l.initial.self))) (512 * l.sector + l.skip) l.done
      ++ drop l.done l.initial.into;
  faults : faults_of g.D.Disk l.self ≡ faults_of g.D.Disk l.initial.self;
  reads : MftReads g.D.Disk l.initial.self l.self (pieces_touched l.skip l.done);
}

abbrev pub decreases-pieces : goal.decreases-pieces
decreases-pieces g l = length l.initial.into - l.done
