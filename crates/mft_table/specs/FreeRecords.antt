-- Which record is taken next, and what freeing one leaves.
use Rattle.std.specs.Prelude.{◌≡◌, ℕ, ◌+◌, ◌<◌, ◌≤◌, Bool, List, IsTrue, false}
use Rattle.cluster_bitmap.specs.Flags.{IsFree}
use Rattle.ntfs_def.specs.Fixup.{IsSealed, array_place, next_number, opened_of, sequence_number}
use Rattle.ntfs_def.specs.Record.{is_in_use}
use Rattle.ntfs_def.specs.declared.records.TheConstants.{FIRST_ORDINARY}
use Rattle.vol_disk.specs.Reading.{DiskReads}
use Rattle.vol_disk.specs.declared.Disk.{Ghosts}
use Rattle.vol_stage.specs.Staged.{GoesOn, StagesOnly, disk_of, image, places, spare}
use Rattle.volume_def.specs.Freed.{FreesRecord}
use Rattle.volume_def.specs.View.{ReplacesBlock, VolumeView}
use Rattle.mft_table.specs.declared.mft.Mft.{Mft}
use Rattle.mft_table.specs.Mft.{committed_of, is_mft_broken, mounted_of, stage_of}

-- the record is free, and one of those that ordinary files may have
abbrev pub IsOrdinaryFree : List Bool → ℕ → Type 0
IsOrdinaryFree records n = (FIRST_ORDINARY ≤ n) × IsFree records n 1

-- .. and the least such
pub record IsLeastFree (records : List Bool) (n : ℕ) : Type 0 where
  pub free : IsOrdinaryFree records n
  pub least : (m : ℕ) → m < n → IsOrdinaryFree records m → ⊥

-- Block n was replaced, with its copy, under the next update sequence number, and opens to the record freed, where the update sequence
-- array of this stands behind the fields that change, as the array of a record does.
pub record FreesBlock (old new : VolumeView) (n : ℕ) : Type 0 where
  pub stored : List ℕ
  pub replaces : ReplacesBlock old new n stored
  pub sealed : IsSealed stored
  pub freed : IsTrue old.told → 0x18 ≤ array_place (opened_of (old.block n)) → FreesRecord (opened_of (old.block n)) (opened_of stored)
  pub counted : IsTrue old.told → 0x18 ≤ array_place (opened_of (old.block n))
      → sequence_number stored ≡ next_number (sequence_number (opened_of (old.block n)))
  pub idle : IsTrue old.told → 0x18 ≤ array_place (opened_of (old.block n)) → is_in_use stored ≡ false

-- What a call keeps that reads so often at most, and stages of these sectors alone, in room for so many at most.
pub record ReadsAndStages {D : Type 0} (g : Ghosts D) (named : List ℕ) (most reads : ℕ) (old new : Mft D g) : Type 0 where
  pub goes_on : GoesOn g (stage_of g old) (stage_of g new)
  pub disk : DiskReads g (disk_of g (stage_of g old)) (disk_of g (stage_of g new)) reads
  pub places : StagesOnly g named (stage_of g old) (stage_of g new)
  pub room : spare g (stage_of g old) ≤ spare g (stage_of g new) + most
  pub sound : is_mft_broken g new ≡ false
  pub committed : committed_of g new ≡ committed_of g old

-- What a call keeps that reads so often at most, and makes room.
pub record ReadsAndReserves {D : Type 0} (g : Ghosts D) (reads : ℕ) (old new : Mft D g) : Type 0 where
  pub goes_on : GoesOn g (stage_of g old) (stage_of g new)
  pub disk : DiskReads g (disk_of g (stage_of g old)) (disk_of g (stage_of g new)) reads
  pub image : image g (stage_of g new) ≡ image g (stage_of g old)
  pub places : places g (stage_of g new) ≡ places g (stage_of g old)
  pub spare : spare g (stage_of g old) ≤ spare g (stage_of g new)
  pub broken : is_mft_broken g new ≡ is_mft_broken g old
  pub mounted : mounted_of g new ≡ mounted_of g old
  pub committed : committed_of g new ≡ committed_of g old
