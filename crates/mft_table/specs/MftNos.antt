-- Why a record is not read.
use Rattle.std.specs.Prelude.{◌≡◌, ℕ, IsTrue}
use Rattle.vol_disk.specs.Count.{Rose}
use Rattle.ntfs_def.specs.Fixup.{IsSealed}
use Rattle.volume_def.specs.View.{VolumeView}
use Rattle.mft_table.specs.declared.error.MftNo.{MftNo}
use Rattle.mft_table.specs.declared.error.MftNo.TheVariants as no

-- Record n of this volume is not read: it is `Torn` where it does not open. Reading takes no memory and no room.
abbrev pub RefusesRead : VolumeView → ℕ → MftNo → Type 0
RefusesRead view n no.Device = Unit {0}
RefusesRead view n (no.Torn number) = (number ≡ n) × (IsTrue view.told → ¬ (IsSealed (view.block n)))
RefusesRead view n no.NoRoom = ⊥
RefusesRead view n no.MftFull = ⊥
RefusesRead view n no.Memory = ⊥

-- Record n of this volume is not freed: it is not read, or there was no memory to stage it.
abbrev pub RefusesFree : VolumeView → ℕ → MftNo → Type 0
RefusesFree view n no.Device = Unit {0}
RefusesFree view n (no.Torn number) = (number ≡ n) × (IsTrue view.told → ¬ (IsSealed (view.block n)))
RefusesFree view n no.NoRoom = ⊥
RefusesFree view n no.MftFull = ⊥
RefusesFree view n no.Memory = Unit {0}

-- what the disk's count of faults did
abbrev pub CountsNo : ℕ → ℕ → MftNo → Type 0
CountsNo before after no.Device = Rose before after
CountsNo before after _ = after ≡ before
