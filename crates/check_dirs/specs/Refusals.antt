-- How a volume is refused for its indexes.
use Rattle.std.specs.Prelude.{◌≡◌, ◌/◌, ℕ, List, Option, Some, length}
use Rattle.vol_disk.specs.Contents.{WhereTold, sector_in}
use Rattle.ntfs_def.specs.Boot.{boot_sector}
use Rattle.volume_def.specs.Sound.{IsRefused}
use Rattle.mft_table.specs.declared.mount.MountNo.{MountNo}
use Rattle.mft_table.specs.declared.mount.MountNo.TheVariants as no
use Rattle.check_dirs.specs.declared.CheckNo.{CheckNo}
use Rattle.check_dirs.specs.declared.CheckNo.TheVariants as check

-- what is said of a disk, where its contents are told: it breaks the clause on indexes first, by the number n
abbrev pub IsIndexRefusal : Option (List ℕ) → MountNo → Type 0
IsIndexRefusal told (no.Refused k n) = WhereTold told (λ image.
    (k ≡ 12) × IsRefused (sector_in (Some image)) (boot_sector image) (length image / 512) 12 n)
IsIndexRefusal told no.Dirty = ⊥
IsIndexRefusal told no.Device = Unit {0}
IsIndexRefusal told no.Memory = Unit {0}

-- a fault of a check, as one of the whole
abbrev pub fault_of : CheckNo → MountNo
fault_of check.Device = no.Device
fault_of check.Memory = no.Memory
