-- A block of the table of a new volume, as stored.
use Rattle.std.specs.Prelude.{◌≡◌, ℕ, List, Option, IsTrue}
use Rattle.ntfs_def.specs.Attribute.{attributes}
use Rattle.ntfs_def.specs.Fixup.{opened_of, sequence_number}
use Rattle.ntfs_def.specs.Record.{is_in_use}
use Rattle.volume_def.specs.Files.{Record, record_in}
use Rattle.volume_def.specs.Table.{IsWellFormed}
use Rattle.record_bytes.specs.NewRecord.{AreAligned}

-- The stored block n holds what is planned: a record, or `None` where it is not in use.
pub record IsStoredRecord (n : ℕ) (planned : Option Record) (stored : List ℕ) : Type 0 where
  pub means : record_in n stored ≡ planned
  pub well_formed : IsTrue (is_in_use stored) → IsWellFormed stored
  pub aligned : IsTrue (is_in_use stored) → AreAligned (attributes (opened_of stored))
  -- it was written once
  pub number : IsTrue (is_in_use stored) → sequence_number stored ≡ 1
