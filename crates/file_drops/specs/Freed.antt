-- THE RECORD OF A FILE THAT GOES: its one name goes out of it, then it is freed, and its flag is cleared behind that.
-- Layout: Linux-NTFS documentation, "File Record", file $MFT, attribute $BITMAP; Carrier, File System Forensic Analysis, chapters 11 and
-- 13.
use Rattle.std.specs.Prelude.{◌≡◌, ℕ, ◌≤◌, true}
use Rattle.ntfs_def.specs.declared.records.TheConstants.{FIRST_ORDINARY}
use Rattle.volume_def.specs.BitmapClauses.{record_bits}
use Rattle.volume_def.specs.View.{VolumeView}
use Rattle.mft_table.specs.declared.mounted.Mounted.{Mounted}
use Rattle.mft_table.specs.Changes.{with_record_given}
use Rattle.mft_table.specs.FreeRecords.{FreesBlock}
use Rattle.tree_model.specs.Ways.{has_record_bit}
use Rattle.record_bits.specs.HeldRecordBits.{HasRows}
use Rattle.record_calls.specs.Marks.{marks_of}
use Rattle.gone_edits.specs.Goes.{FreesFile, QuitsName}
use Rattle.file_drops.specs.Named.{HasOneName}

-- THE NAME GOES, and the record is freed.
pub record LeavesRecord (old new : VolumeView) (n : ℕ) : Type 0 where
  pub counted : VolumeView
  pub quits : QuitsName old counted n
  pub frees : FreesBlock counted new n

-- THE NAME GOES, and the record is freed, with its flag in memory and in the stored bitmap.
pub record GoesWhole (old new : VolumeView) (was now : Mounted) (n : ℕ) : Type 0 where
  pub counted : VolumeView
  pub quits : QuitsName old counted n
  pub frees : FreesFile counted new was now n

-- Where the record is free, the stored bitmap of records can be found still, where it was, and the flag has a place there.
pub record HasFlag (view freed : VolumeView) (mounted : Mounted) (n : ℕ) : Type 0 where
  pub rows : HasRows freed (with_record_given mounted n)
  pub same : record_bits freed ≡ record_bits view
  pub flag : has_record_bit freed n ≡ true

-- The file is an ordinary one of one name, and however its name goes and its record is freed, the flag is found then.
pub record MayFree (view : VolumeView) (mounted : Mounted) (n : ℕ) : Type 0 where
  pub one : HasOneName view (marks_of mounted) n
  pub ordinary : FIRST_ORDINARY ≤ n
  pub after : (freed : VolumeView) → LeavesRecord view freed n → HasFlag view freed mounted n
