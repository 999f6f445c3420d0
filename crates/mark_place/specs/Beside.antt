-- A sector that is none of those of the dirty flag, and attributes whose sectors are none of them.
use Rattle.std.specs.Prelude.{◌≢◌, ◌⊎◌, ℕ}
use Rattle.ntfs_def.specs.declared.kinds.TheConstants.{DATA}
use Rattle.ntfs_def.specs.declared.records.TheConstants.{LOG_FILE, MFT, MFT_MIRROR}
use Rattle.mark_write.specs.declared.flag.Flag.{Flag}

-- It is neither the sector of record 3 that holds the flag, nor that of its copy.
pub record IsBesideFlag (flag : Flag) (sector : ℕ) : Type 0 where
  pub home : sector ≢ flag.home
  pub copy : sector ≢ flag.copy

-- An attribute of file f of this type is no stream, or one of a file that is neither the table of records, its mirror, nor the log.
abbrev pub IsElsewhere : ℕ → ℕ → Type 0
IsElsewhere f kind = (kind ≢ DATA) ⊎ ((f ≢ MFT) × ((f ≢ MFT_MIRROR) × (f ≢ LOG_FILE)))
