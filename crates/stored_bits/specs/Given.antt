-- WHAT IS KEPT where clusters were given back or taken, in memory too.
use Rattle.std.specs.Prelude.{◌≡◌, ℕ, Bool, List, Contains}
use Rattle.vol_disk.specs.declared.Disk.{Ghosts}
use Rattle.vol_stage.specs.Staged.{GoesOn, disk_of}
use Rattle.volume_def.specs.BitmapClauses.{cluster_bits}
use Rattle.volume_def.specs.Values.{spot_at}
use Rattle.volume_def.specs.View.{VolumeView}
use Rattle.volume_edits.specs.Clusters.{stream_sectors}
use Rattle.mft_table.specs.declared.mft.Mft.{Mft}
use Rattle.mft_table.specs.Mft.{committed_of, is_mft_broken, mounted_of, stage_of}

-- Nothing was written or settled, and of the tables that are kept in memory the flags of clusters alone may have changed.
pub record KeepsDevice {D : Type 0} (g : Ghosts D) (old new : Mft D g) : Type 0 where
  pub goes_on : GoesOn g (stage_of g old) (stage_of g new)
  pub now : g.now (disk_of g (stage_of g new)) ≡ g.now (disk_of g (stage_of g old))
  pub settled : g.settled (disk_of g (stage_of g new)) ≡ g.settled (disk_of g (stage_of g old))
  pub fenced : g.fenced (disk_of g (stage_of g new)) ≡ g.fenced (disk_of g (stage_of g old))
  pub written : g.written (disk_of g (stage_of g new)) ≡ g.written (disk_of g (stage_of g old))
  pub late : g.late (disk_of g (stage_of g new)) ≡ g.late (disk_of g (stage_of g old))
  pub broken : is_mft_broken g new ≡ is_mft_broken g old
  pub committed : committed_of g new ≡ committed_of g old
  pub clusters : List Bool
  pub mounted : mounted_of g new ≡ record (mounted_of g old) { clusters = clusters }

-- the sector is one of the stream of the bitmap of clusters
abbrev pub IsOfBits : VolumeView → ℕ → Type 0
IsOfBits view sector = (at : ℕ) × (len : ℕ) × Contains (stream_sectors view.layout (spot_at (cluster_bits view)) at len) sector
