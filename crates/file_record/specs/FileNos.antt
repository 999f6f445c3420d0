-- Why a file is not read.
use Rattle.std.specs.Prelude.{◌≡◌, ℕ}
use Rattle.vol_disk.specs.Count.{Rose}
use Rattle.file_record.specs.declared.error.FileNo.{FileNo}
use Rattle.file_record.specs.declared.error.FileNo.TheVariants as no

-- A read fails by the disk or for want of memory alone.
abbrev pub IsReadNo : FileNo → Type 0
IsReadNo no.Device = Unit {0}
IsReadNo no.NoRoom = ⊥
IsReadNo no.MftFull = ⊥
IsReadNo no.TooManyParts = ⊥
IsReadNo no.Memory = Unit {0}

-- what the disk's count of faults did
abbrev pub CountsNo : ℕ → ℕ → FileNo → Type 0
CountsNo before after no.Device = Rose before after
CountsNo before after _ = after ≡ before
