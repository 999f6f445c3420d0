-- HOW MANY BYTES ARE FREE in the record of a part of a file that is held.
-- Layout: Linux-NTFS documentation, "File Record"; Carrier, File System Forensic Analysis, chapter 13.
use Rattle.std.specs.Prelude.{◌≡◌, ℕ, ◌-◌, Contains, Some, slice_get}
use Rattle.ntfs_def.specs.Record.{used_size}
use Rattle.volume_def.specs.Files.{Part}
use Rattle.file_record.specs.declared.held.Held.{Held}
use Rattle.file_record.specs.declared.parts.FileParts.{FileParts}
use Rattle.file_record.specs.Held.{held_of, parts_held}

-- Part i of the file stands in this record, and so many bytes of that are free.
pub record TellsFree (file : FileParts) (i free : ℕ) : Type 0 where
  pub one : Held
  pub among : Contains (held_of file) one
  pub part : Part
  pub there : slice_get (parts_held file) i ≡ Some part
  pub holder : part.holder ≡ one.number
  pub free_is : free ≡ 1024 - used_size one.block
