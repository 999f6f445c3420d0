-- What the writing of an edit may change beside what was staged.
use Rattle.std.specs.Prelude.{◌≡◌, ◌≢◌, ◌/◌, ℕ, List, Some}
use Rattle.vol_disk.specs.Contents.{sector_in}
use Rattle.ntfs_def.specs.declared.run_text.Spot.TheVariants.{At}
use Rattle.volume_def.specs.Values.{spot_at}
use Rattle.volume_def.specs.View.{VolumeView}
use Rattle.session_def.specs.Cost.{log_parts}
use Rattle.mark_write.specs.Flags.{cleared_sector}
use Rattle.mark_write.specs.declared.flag.Flag.{Flag}
use Rattle.volume_mark.specs.SameVolume.{AgreesButMark}

-- The sector lies in no cluster of the log, where its stream lies.
abbrev pub IsBesideLog : VolumeView → ℕ → Type 0
IsBesideLog view sector = (vcn : ℕ) → spot_at (log_parts view) vcn ≢ At (sector / view.layout.cluster_sectors)

-- THE MARK AND THE LOG AT MOST WERE WRITTEN: the bytes differ from those that were staged in the bit of the mark, and in clusters of the
-- log, alone.
pub record DiffersByMark (view : VolumeView) (flag : Flag) (staged written : List ℕ) : Type 0 where
  pub agrees : AgreesButMark view flag staged written
  pub beside : (n : ℕ) → IsBesideLog view n
      → cleared_sector flag (sector_in (Some written)) n ≡ cleared_sector flag (sector_in (Some staged)) n
