-- The same volume, but for its mark and what its log holds.
use Rattle.std.specs.Prelude.{◌≡◌, ℕ, ◌/◌, ◌%◌, ◌≤◌, List, [], Some, length, slice_index}
use Rattle.vol_disk.specs.Contents.{sector_in}
use Rattle.ntfs_def.specs.declared.kinds.TheConstants.{DATA}
use Rattle.ntfs_def.specs.declared.records.TheConstants.{LOG_FILE}
use Rattle.volume_def.specs.Coverage.{times_covered}
use Rattle.volume_def.specs.Files.{joined_runs, parts_at}
use Rattle.volume_def.specs.Sound.{IsSound}
use Rattle.volume_def.specs.View.{VolumeView}
use Rattle.tree_model.specs.Facts.{IsVolumeOf}
use Rattle.tree_model.specs.Reading.{read}
use Rattle.session_def.specs.State.{dirty_flag}
use Rattle.mark_write.specs.declared.flag.Flag.{Flag}
use Rattle.mark_write.specs.Flags.{cleared_sector}
use Rattle.volume_mark.specs.Mark.{IsFlagOf}

-- The sector lies in a cluster of the log: of the unnamed $DATA of record 2.
abbrev pub IsOfLog : VolumeView → ℕ → Type 0
IsOfLog view sector =
    1 ≤ times_covered (joined_runs (parts_at view LOG_FILE DATA [])) (sector / view.layout.cluster_sectors)

-- Bytes that differ from these in the sectors of the log and in the bit of the mark alone, which is the same in both of its sectors.
pub record AgreesButMark (view : VolumeView) (flag : Flag) (old new : List ℕ) : Type 0 where
  pub long : length new ≡ length old
  pub sectors : (n : ℕ) → ¬ (IsOfLog view n)
      → cleared_sector flag (sector_in (Some new)) n ≡ cleared_sector flag (sector_in (Some old)) n
  pub alike : slice_index (sector_in (Some new) flag.home) flag.at % 2 ≡ slice_index (sector_in (Some new) flag.copy) flag.at % 2

-- The bytes are a sound volume that reads as this one, with its flag where it was; the bit says whether it is dirty.
pub record IsSameVolume (view : VolumeView) (flag : Flag) (bytes : List ℕ) : Type 0 where
  pub other : VolumeView
  pub volume : IsVolumeOf bytes other
  pub layout : other.layout ≡ view.layout
  pub sound : IsSound other
  pub reading : read other ≡ read view
  pub flag_there : IsFlagOf other flag
  pub dirty : dirty_flag other ≡ Some (slice_index (sector_in (Some bytes) flag.home) flag.at % 2)

-- THE LAW OF THE MARK AND THE LOG, as a word: bytes that agree so are the same volume.
abbrev pub MarkLaw : VolumeView → Flag → List ℕ → Type 0
MarkLaw view flag bytes = (new : List ℕ) → AgreesButMark view flag bytes new → IsSameVolume view flag new
