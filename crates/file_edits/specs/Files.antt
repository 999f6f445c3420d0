-- A FILE COMES, OR GOES: the base record of an ordinary file whose attributes are all values.
use Rattle.std.specs.Prelude.{◌≡◌, ◌≢◌, ℕ, ◌%◌, ◌≤◌, ◌<◌, ◌==◌, All, Bool, false, true, List, [], IsSome, IsTrue, None, length}
use Rattle.ntfs_def.specs.Fixup.{opened_of}
use Rattle.ntfs_def.specs.Record.{is_in_use}
use Rattle.ntfs_def.specs.declared.kinds.TheConstants.{ATTRIBUTE_LIST, FILE_NAME}
use Rattle.ntfs_def.specs.declared.records.TheConstants.{FIRST_ORDINARY}
use Rattle.volume_def.specs.AttributesClause.{IsRightRecord}
use Rattle.volume_def.specs.ExtentsClause.{AreAttribute}
use Rattle.volume_def.specs.Files.{Part, Record, content_value, is_base, parts_like, record_of, record_on}
use Rattle.volume_def.specs.ListsClause.{IsAlone}
use Rattle.volume_def.specs.Room.{longest_name}
use Rattle.volume_def.specs.Table.{IsWellFormed, cluster_bytes}
use Rattle.volume_def.specs.View.{ReplacesBlock, VolumeView}
use Rattle.edit_def.specs.Account.{Wants}
use Rattle.edit_def.specs.Kept.{Key}
use Rattle.edit_def.specs.Marks.{Marks}
use Rattle.file_edits.specs.Steps.{SetsRow}

-- all attributes of a file
abbrev pub is_file_key : ℕ → Key → Bool
is_file_key f key = key.file == f

-- A value, that is no list and has a name of whole units.
pub record IsPlainValue (part : Part) : Type 0 where
  pub value : IsSome (content_value part.content)
  pub no_list : part.kind ≢ ATTRIBUTE_LIST
  pub units : length part.name % 2 ≡ 0

-- A base record without a list, whose attributes are values.
pub record IsPlainFile (f : ℕ) (r : Record) : Type 0 where
  pub base : IsTrue (is_base r)
  pub values : All IsPlainValue r.parts
  pub held : r.parts ≢ []

-- FILE f COMES: such a record stands in a block that was not in use, and meets what the clauses ask of it.
pub record MakesFile (f : ℕ) (old new : VolumeView) (before after : Marks) : Type 0 where
  pub told : IsTrue old.told
  pub stored : List ℕ
  pub replaces : ReplacesBlock old new f stored
  pub ordinary : FIRST_ORDINARY ≤ f
  pub inside : f < old.layout.count
  pub free : record_on old f ≡ None
  pub used : IsTrue (is_in_use stored)
  pub well : IsWellFormed stored
  pub plain : IsPlainFile f (record_of f (opened_of stored))
  pub right : IsRightRecord f (record_of f (opened_of stored))
  pub streams : All (λ part. part.kind ≢ FILE_NAME
      → AreAttribute (cluster_bytes old.layout) f (parts_like part (record_of f (opened_of stored)).parts)) (record_of f
      (opened_of stored)).parts
  pub row : SetsRow before after f true

-- what it costs: a record, its parts, and the longest of their names
pub record CostsFile (f : ℕ) (parts : List Part) (wants : Wants) : Type 0 where
  pub parts_are : length parts ≤ wants.parts f
  pub names : longest_name parts ≤ wants.units f
  pub one : 1 ≤ wants.records

-- FILE f GOES: such a record, with no other of the file, is not in use any more.
pub record DropsFile (f : ℕ) (old new : VolumeView) (before after : Marks) : Type 0 where
  pub told : IsTrue old.told
  pub stored : List ℕ
  pub replaces : ReplacesBlock old new f stored
  pub ordinary : FIRST_ORDINARY ≤ f
  pub inside : f < old.layout.count
  pub used : IsTrue (is_in_use (old.block f))
  pub plain : IsPlainFile f (record_of f (opened_of (old.block f)))
  pub alone : IsAlone old f
  pub gone : is_in_use stored ≡ false
  pub row : SetsRow before after f false
