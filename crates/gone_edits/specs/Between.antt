-- BETWEEN THE CALLS OF `rm`: where the entry has gone out of the index, where the file has no name any more, and where its record is free.
use Rattle.std.specs.Prelude.{◌≡◌, ◌≢◌, ℕ, [], None}
use Rattle.volume_def.specs.BitmapClauses.{record_bits}
use Rattle.volume_def.specs.Coverage.{IsOutsideTable}
use Rattle.volume_def.specs.FileNames.{names_of}
use Rattle.volume_def.specs.Files.{parts, record_on, records_of}
use Rattle.volume_def.specs.ListsClause.{IsAlone}
use Rattle.volume_def.specs.View.{VolumeView}
use Rattle.mft_table.specs.declared.mounted.Mounted.{Mounted}
use Rattle.edit_def.specs.Marks.{Marks}
use Rattle.file_edits.specs.Files.{IsPlainFile}
use Rattle.record_calls.specs.Calls.{IsInOneRecord}
use Rattle.record_calls.specs.Edits.{record_there}
use Rattle.record_edits.specs.Between.{IsReady}
use Rattle.in_place.specs.Unnamed.{LiesApart}
use Rattle.record_bits.specs.HeldRecordBits.{HasRows}

-- THE ENTRY HAS GONE: the volume stands as between two calls, its layout stays, and its clusters lie apart. The record of the file was not
-- written, the file has the parts that it had, and is another one than the directory.
pub record HasExited (old new : VolumeView) (marks : Marks) (n dir : ℕ) : Type 0 where
  pub ready : IsReady new marks
  pub layout : new.layout ≡ old.layout
  pub apart : LiesApart new
  pub other : dir ≢ n
  pub block : new.block n ≡ old.block n
  pub one : IsInOneRecord new n
  pub own : parts (records_of new) n ≡ parts (records_of old) n

-- THE FILE HAS NO NAME: the volume stands as between two calls, and its clusters lie apart. The file is a base record without a list, with
-- values alone, and has no other record.
pub record HasNoName (view : VolumeView) (marks : Marks) (n : ℕ) : Type 0 where
  pub ready : IsReady view marks
  pub apart : LiesApart view
  pub one : IsInOneRecord view n
  pub plain : IsPlainFile n (record_there view n)
  pub alone : IsAlone view n
  pub unnamed : names_of (records_of view) n ≡ []

-- ITS RECORD IS FREE: the volume stands as between two calls, with these bits in memory, and its clusters lie apart.
pub record IsFreed (view : VolumeView) (marks : Marks) (n : ℕ) : Type 0 where
  pub ready : IsReady view marks
  pub apart : LiesApart view
  pub unused : record_on view n ≡ None

-- AND THE BITMAP OF RECORDS is found as it was: it lies where it lay behind the name, and before the entry. All other files have the parts
-- that they had behind the name, and clusters outside the table their bytes.
pub record KeepsRows (old counted freed : VolumeView) (now : Mounted) (n : ℕ) : Type 0 where
  pub rows : HasRows freed now
  pub same : record_bits freed ≡ record_bits counted
  pub was : record_bits counted ≡ record_bits old
  pub layout : freed.layout ≡ old.layout
  pub others : (f : ℕ) → f ≢ n → parts (records_of freed) f ≡ parts (records_of counted) f
  pub clusters : (c : ℕ) → IsOutsideTable counted.layout c → freed.cluster c ≡ counted.cluster c
