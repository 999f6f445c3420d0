-- Why a volume is not taken into use, by what was answered below.
use Rattle.std.specs.Prelude.{◌≡◌, ℕ}
use Rattle.vol_disk.specs.Count.{Rose}
use Rattle.vol_stage.specs.declared.error.StageNo.{StageNo}
use Rattle.vol_stage.specs.declared.error.StageNo.TheVariants as stage
use Rattle.ntfs_boot.specs.Geometry.{number_of}
use Rattle.mft_table.specs.declared.error.TableNo.{TableNo}
use Rattle.mft_table.specs.declared.error.TableNo.TheVariants as table
use Rattle.mft_table.specs.declared.mount.MountNo.{MountNo}
use Rattle.mft_table.specs.declared.mount.MountNo.TheVariants as no

abbrev pub no_memory : MountNo
no_memory = no.Memory

abbrev pub no_stage : StageNo → MountNo
no_stage stage.Device = no.Device
no_stage stage.Memory = no.Memory

-- where the table of records is not found
abbrev pub no_table : TableNo → MountNo
no_table (table.Boot fault) = no.Refused 1 (number_of fault)
no_table table.Table = no.Refused 2 0
no_table table.Device = no.Device
no_table table.Memory = no.Memory

-- what the disk's count of faults did
abbrev pub CountsMount : ℕ → ℕ → MountNo → Type 0
CountsMount before after no.Device = Rose before after
CountsMount before after _ = after ≡ before
