-- THE PARTS OF THE LOG stay where the mark is written.
use Rattle.std.proofs.Common.{◌≡◌, ◌<◌, ◌/◌, ◌∙◌, ℕ, List, length, Some, sym, arith}
use Rattle.vol_disk.specs.Contents.{sector_in}
use Rattle.ntfs_def.specs.Boot.{boot_sector}
use Rattle.ntfs_def.specs.declared.records.TheConstants.{LOG_FILE, VOLUME}
use Rattle.volume_def.specs.Blocks.{block_of, copy_of}
use Rattle.volume_def.specs.Files.{parts, records_of}
use Rattle.volume_def.specs.Sound.{HasLayout, IsSound, told_view}
use Rattle.volume_def.specs.Table.{TableLayout}
use Rattle.volume_def.specs.View.{VolumeView}
use Rattle.volume_def.proofs.RecordLaws.{parts-other}
use Rattle.mark_write.specs.declared.flag.Flag.{Flag}
use Rattle.volume_mark.specs.FlagByte.{ChangesFlag}
use Rattle.volume_mark.specs.Mark.{IsFlagOf}
use Rattle.volume_mark.proofs.DiskLaws as disks
use Rattle.volume_mark.proofs.FlagEdit as edit
use Rattle.first_mark.specs.Written.{DiffersByMark}

module _ (old : List ℕ) (layout : TableLayout) (has : HasLayout (sector_in (Some old)) (boot_sector old) (length old / 512) layout)
    (sound : IsSound (told_view (sector_in (Some old)) layout)) (flag : Flag) (f : IsFlagOf (told_view (sector_in (Some old)) layout) flag)
    (new : List ℕ) (w : DiffersByMark (told_view (sector_in (Some old)) layout) flag old new) where
  abbrev view : VolumeView
  view = told_view (sector_in (Some old)) layout

  abbrev next : VolumeView
  next = told_view (sector_in (Some new)) layout

  abbrev many : 3 < layout.count
  many = disks.many old layout has sound flag f

  abbrev changes : ChangesFlag view (block_of (sector_in (Some new)) layout) (copy_of (sector_in (Some new)) layout) f.byte
  changes = disks.changes-flag old layout has sound flag f new w.agrees

  pub log-parts : parts (records_of next) LOG_FILE ≡ parts (records_of view) LOG_FILE
  log-parts =
      let block' = block_of (sector_in (Some new)) layout in
      let copy' = copy_of (sector_in (Some new)) layout in
      let e = edit.flag-edits view flag f sound many block' copy' changes in
      parts-other (records_of view) (records_of next) VOLUME LOG_FILE _ _ e.edit
      (λ same. let z = sym (edit.edit-file view flag f sound many block' copy' changes) ∙ same in omega (arith, z))
