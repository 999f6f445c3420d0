use Rattle.std.proofs.Common.{◌≡◌, false}
use Rattle.vol_stage.specs.Staged.{disk_of, is_broken, reference_of}
use Rattle.block_tests.proofs.stages.stage_first.Given as goal

abbrev pub invariant-sectors : goal.invariant-sectors
invariant-sectors g l = record {
  sound : is_broken g.D.Disk l.stage ≡ false;
  same_reference : reference_of g.D.Disk l.stage ≡ reference_of g.D.Disk l.initial.stage;
  size : g.D.Disk.size (disk_of g.D.Disk l.stage) ≡ g.D.Disk.size (disk_of g.D.Disk l.initial.stage);
}
