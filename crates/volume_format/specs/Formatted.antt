-- What a disk holds on which a new volume was made.
use Rattle.std.specs.Prelude.{ℕ, List, Some}
use Rattle.ntfs_def.specs.Boot.{boot_sector}
use Rattle.vol_disk.specs.Contents.{sector_in}
use Rattle.volume_def.specs.Sound.{IsAccepted, told_view}
use Rattle.volume_format.specs.NewBoot.{HasGeometry}
use Rattle.volume_format.specs.Options.{Options, plan_of}
use Rattle.volume_format.specs.Planned.{IsPlanned}

-- The contents of a disk of so many sectors are a new volume with these options: the volume definition accepts them, they are
-- what the plan says, so that the records, the label and the owners are those of the plan, and the geometry and the serial
-- number are those of the options.
pub record IsNewVolume (o : Options) (sectors : ℕ) (all : List ℕ) : Type 0 where
  pub accepted : IsAccepted (sector_in (Some all)) (boot_sector all) sectors
  pub planned : IsPlanned (plan_of o) (told_view (sector_in (Some all)) accepted.layout)
  pub geometry : HasGeometry o (boot_sector all)
