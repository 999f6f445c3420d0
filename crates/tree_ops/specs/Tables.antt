-- WHAT IS KEPT where an edit was staged, in memory too.
use Rattle.std.specs.Prelude.{◌≡◌, Bool, List, length}
use Rattle.vol_disk.specs.declared.Disk.{Ghosts}
use Rattle.vol_stage.specs.Staged.{GoesOn, disk_of}
use Rattle.mft_table.specs.declared.mft.Mft.{Mft}
use Rattle.mft_table.specs.Mft.{committed_of, is_mft_broken, mounted_of, stage_of}

-- Nothing was written or settled, and of the tables that are kept in memory the flags of clusters and of records alone may have changed;
-- the records are as many as they were.
pub record KeepsTables {D : Type 0} (g : Ghosts D) (old new : Mft D g) : Type 0 where
  pub goes_on : GoesOn g (stage_of g old) (stage_of g new)
  pub now : g.now (disk_of g (stage_of g new)) ≡ g.now (disk_of g (stage_of g old))
  pub settled : g.settled (disk_of g (stage_of g new)) ≡ g.settled (disk_of g (stage_of g old))
  pub fenced : g.fenced (disk_of g (stage_of g new)) ≡ g.fenced (disk_of g (stage_of g old))
  pub written : g.written (disk_of g (stage_of g new)) ≡ g.written (disk_of g (stage_of g old))
  pub late : g.late (disk_of g (stage_of g new)) ≡ g.late (disk_of g (stage_of g old))
  pub broken : is_mft_broken g new ≡ is_mft_broken g old
  pub committed : committed_of g new ≡ committed_of g old
  pub clusters : List Bool
  pub records : List Bool
  pub mounted : mounted_of g new ≡ record (mounted_of g old) { clusters = clusters; records = records }
  pub as_many : length records ≡ length (mounted_of g old).records
