-- How a volume, and the contents of a disk, are refused by the clauses that are decided here.
use Rattle.std.specs.Prelude.{◌≡◌, ◌⊎◌, ◌/◌, ◌≤◌, ℕ, List, Option, Some, IsTrue, length}
use Rattle.vol_disk.specs.Contents.{WhereTold, sector_in}
use Rattle.ntfs_def.specs.Boot.{boot_sector}
use Rattle.volume_def.specs.Sound.{IsRefused}
use Rattle.volume_def.specs.View.{VolumeView}
use Rattle.mft_table.specs.declared.mount.MountNo.{MountNo}
use Rattle.mft_table.specs.declared.mount.MountNo.TheVariants as no
use Rattle.clause_order.specs.Refusals.{IsFirstBroken}

-- what is said of a volume whose table was found, where the contents of the disk are told
abbrev pub IsRefusalOf : VolumeView → MountNo → Type 0
IsRefusalOf view (no.Refused k n) = IsTrue view.told → IsFirstBroken 10 view k n
IsRefusalOf view no.Dirty = ⊥
IsRefusalOf view no.Device = Unit {0}
IsRefusalOf view no.Memory = Unit {0}

-- the clauses that are decided here: S1 to S11 and S13
abbrev pub IsDecided : ℕ → Type 0
IsDecided k = (k ≤ 11) ⊎ (k ≡ 13)

-- What is said of a disk, where its contents are told: it is refused by a clause that is decided here.
abbrev pub IsRefusal : Option (List ℕ) → MountNo → Type 0
IsRefusal told (no.Refused k n) = WhereTold told (λ image.
    IsDecided k × IsRefused (sector_in (Some image)) (boot_sector image) (length image / 512) k n)
IsRefusal told no.Dirty = ⊥
IsRefusal told no.Device = Unit {0}
IsRefusal told no.Memory = Unit {0}
