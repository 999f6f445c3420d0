-- What an opened record says of the stored one.
use Rattle.std.proofs.Common.{◌≡◌, ℕ, List, length, ap, ◌∙◌, arith}
use Rattle.ntfs_def.specs.Fixup.{opened_of}
use Rattle.ntfs_def.specs.Record.{is_in_use}
use Rattle.ntfs_def.proofs.FixupLaws.{length-opened_of}
use Rattle.file_record.proofs.OpenedRecords.{is_in_use-opened_of}

-- a record of 1,024 bytes is in use where the stored one is
pub used-read : (stored block : List ℕ) → length block ≡ 1024 → block ≡ opened_of stored → is_in_use block ≡ is_in_use stored
used-read stored block long is =
    ap is_in_use is ∙ is_in_use-opened_of stored (omega (arith, ap length is, length-opened_of stored))
