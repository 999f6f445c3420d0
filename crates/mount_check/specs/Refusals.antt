-- How a volume is refused, by a view of it and by the contents of its disk.
use Rattle.std.specs.Prelude.{◌/◌, ℕ, List, Option, Some, IsTrue, length}
use Rattle.vol_disk.specs.Contents.{WhereTold, sector_in}
use Rattle.ntfs_def.specs.Boot.{boot_sector}
use Rattle.volume_def.specs.Sound.{HasLayout, IsRefused, IsSound, told_view}
use Rattle.volume_def.specs.Table.{TableLayout}
use Rattle.volume_def.specs.VersionClause.{IsClean}
use Rattle.volume_def.specs.View.{VolumeView}
use Rattle.mft_table.specs.declared.mount.MountNo.{MountNo}
use Rattle.mft_table.specs.declared.mount.MountNo.TheVariants as no
use Rattle.clause_order.specs.Refusals.{IsFirstBroken}

-- All clauses hold, and the volume was not closed.
pub record IsUnclean (view : VolumeView) : Type 0 where
  pub sound : IsSound view
  pub unclean : ¬ (IsClean view)

-- what is said of a volume, where the contents of the disk are told and this stands before it
abbrev pub IsMountNoIf : Type 0 → VolumeView → MountNo → Type 0
IsMountNoIf before view (no.Refused k n) = IsTrue view.told → before → IsFirstBroken 15 view k n
IsMountNoIf before view no.Dirty = IsTrue view.told → before → IsUnclean view
IsMountNoIf before view no.Device = Unit {0}
IsMountNoIf before view no.Memory = Unit {0}

-- A disk of these contents meets S1 to S15, but its volume was not closed.
pub record IsDirty (image : List ℕ) : Type 0 where
  pub layout : TableLayout
  pub has : HasLayout (sector_in (Some image)) (boot_sector image) (length image / 512) layout
  pub unclean : IsUnclean (told_view (sector_in (Some image)) layout)

-- Why a disk is not taken into use, where its contents are told.
abbrev pub IsMountNo : Option (List ℕ) → MountNo → Type 0
IsMountNo told (no.Refused k n) = WhereTold told (λ image.
    IsRefused (sector_in (Some image)) (boot_sector image) (length image / 512) k n)
IsMountNo told no.Dirty = WhereTold told IsDirty
IsMountNo told no.Device = Unit {0}
IsMountNo told no.Memory = Unit {0}
