-- A FILE GOES WITH ITS ONE NAME: what the calls of `rm` give, and on which volume. All attributes of the file are values in its one record.
-- Layout: Linux-NTFS documentation, attributes $FILE_NAME and $INDEX_ROOT, "File Record"; Carrier, File System Forensic Analysis,
-- chapters 11 to 13.
use Rattle.std.specs.Prelude.{◌≡◌, ℕ, ◌≤◌, All, IsSome, IsTrue, List, [], ◌∷◌, Some, false}
use Rattle.ntfs_def.specs.FileName.{FileName, key_units}
use Rattle.ntfs_def.specs.declared.kinds.TheConstants.{FILE_NAME}
use Rattle.ntfs_def.specs.declared.records.TheConstants.{FIRST_ORDINARY}
use Rattle.volume_def.specs.FileNames.{names_of}
use Rattle.volume_def.specs.Files.{content_value, parts, records_of}
use Rattle.volume_def.specs.View.{VolumeView}
use Rattle.volume_edits.specs.Rewritten.{CountsLinks}
use Rattle.mft_table.specs.declared.mounted.Mounted.{Mounted}
use Rattle.mft_table.specs.Changes.{with_record_given}
use Rattle.mft_table.specs.FreeRecords.{FreesBlock}
use Rattle.file_record.specs.Attributes.{RemovesAttribute}
use Rattle.tree_model.specs.Reading.{node_at}
use Rattle.tree_model.specs.declared.tree.Node.{Node}
use Rattle.record_calls.specs.Calls.{IsInOneRecord}
use Rattle.in_place.specs.Unnamed.{CanSet}
use Rattle.record_bits.specs.StoredRecordBit.{ClearsRecordBit}
use Rattle.gone_edits.specs.Exits.{ExitsIndex}

-- THE VOLUME BEFORE, and a file that may go: an ordinary one that is shown and no directory, in one record, whose attributes are values.
-- It has one name, in a directory that is shown, whose attributes can be set.
pub record CanGo (view : VolumeView) (n dir : ℕ) (file parent : Node) (name : FileName) : Type 0 where
  pub told : IsTrue view.told
  pub directory : CanSet view dir parent
  pub ordinary : FIRST_ORDINARY ≤ n
  pub there : node_at view n ≡ Some file
  pub plain : file.dir ≡ false
  pub one : IsInOneRecord view n
  pub values : All (λ part. IsSome (content_value part.content)) (parts (records_of view) n)
  pub only : names_of (records_of view) n ≡ name ∷ []
  pub inside : name.parent.number ≡ dir

-- ITS NAME GOES out of its record, which counts no link then.
pub record QuitsName (old new : VolumeView) (n : ℕ) : Type 0 where
  pub at : ℕ
  pub unnamed : VolumeView
  pub name : RemovesAttribute old unnamed n at
  pub kind : name.was.kind ≡ FILE_NAME
  pub stored : List ℕ
  pub counts : CountsLinks unnamed new n stored 0

-- ITS RECORD IS FREED, and its flag in memory; then its flag is cleared in the stored bitmap.
pub record FreesFile (old new : VolumeView) (was now : Mounted) (n : ℕ) : Type 0 where
  pub freed : VolumeView
  pub frees : FreesBlock old freed n
  pub given : now ≡ with_record_given was n
  pub clears : ClearsRecordBit freed new n

-- THE FILE GOES: the entry of its name exits the index of its directory, then its name goes, and then its record.
pub record GoesUnder (old new : VolumeView) (was now : Mounted) (n dir : ℕ) (name : FileName) : Type 0 where
  pub key : List ℕ
  pub key_is : key_units key ≡ name.units
  pub left : VolumeView
  pub exits : ExitsIndex old left dir key
  pub counted : VolumeView
  pub quits : QuitsName left counted n
  pub frees : FreesFile counted new was now n
