-- CALLS WITH VALUES on one record of a file: what their caller can test.
use Rattle.std.specs.Prelude.{◌≡◌, ◌≢◌, ◌⊎◌, ◌%◌, ℕ, [], IsSome, IsTrue, count_by, length}
use Rattle.ntfs_def.specs.Attribute.{Attribute, attributes, value_of}
use Rattle.ntfs_def.specs.declared.kinds.TheConstants.{ATTRIBUTE_LIST, FILE_NAME, STANDARD_INFORMATION}
use Rattle.volume_def.specs.AttributesClause.{IsRightPart, IsStandard, times_id}
use Rattle.volume_def.specs.Files.{file_of, is_base, part_of, parts, parts_at, records_of}
use Rattle.volume_def.specs.ListsClause.{is_list}
use Rattle.volume_def.specs.Readable.{IsFile}
use Rattle.volume_def.specs.View.{VolumeView}
use Rattle.file_edits.specs.Between.{MayBeEdited}
use Rattle.file_record.specs.Attributes.{opened_record}
use Rattle.record_calls.specs.Edits.{record_there}
use Rattle.record_calls.specs.Rising.{RisesAt}

-- Record n is one of file f, which may be edited.
pub record MayEditIn (view : VolumeView) (f n : ℕ) : Type 0 where
  pub file : file_of n (record_there view n) ≡ f
  pub is_file : IsFile view f
  pub may : MayBeEdited f

-- File f may be edited, and has no attribute list: all that it has stands in its base record.
pub record IsInOneRecord (view : VolumeView) (f : ℕ) : Type 0 where
  pub base : IsTrue (is_base (record_there view f))
  pub may : MayBeEdited f
  pub no_list : count_by is_list (parts (records_of view) f) ≡ 0

-- A value, neither the list of a file nor its $STANDARD_INFORMATION.
pub record IsOtherValue (attribute : Attribute) : Type 0 where
  pub value : IsSome (value_of attribute.body)
  pub no_list : attribute.kind ≢ ATTRIBUTE_LIST
  pub no_standard : attribute.kind ≢ STANDARD_INFORMATION

-- Such a value may come before attribute i of record n, or behind all: it is right by itself, its name is of whole units, types rise still,
-- and no attribute of the record has its id.
pub record MayCome (view : VolumeView) (n i : ℕ) (attribute : Attribute) : Type 0 where
  pub other : IsOtherValue attribute
  pub part : IsRightPart (part_of n attribute)
  pub units : length attribute.name % 2 ≡ 0
  pub rises : RisesAt (attributes (opened_record view n)) i attribute.kind
  pub new_id : times_id attribute.id (record_there view n).parts ≡ 0

-- No attribute of file f has this type and name, unless it is a name of the file.
abbrev pub IsNewName : VolumeView → ℕ → Attribute → Type 0
IsNewName view f attribute = attribute.kind ≢ FILE_NAME → parts_at view f attribute.kind attribute.name ≡ []

-- A value may be put in the place of another in record n: it has its type and name, its id or one that no attribute of the record has, and
-- is right by itself.
pub record MayReplace (view : VolumeView) (n : ℕ) (was now : Attribute) : Type 0 where
  pub was_value : IsSome (value_of was.body)
  pub value : IsSome (value_of now.body)
  pub no_list : was.kind ≢ ATTRIBUTE_LIST
  pub kind : now.kind ≡ was.kind
  pub name : now.name ≡ was.name
  pub id : (now.id ≡ was.id) ⊎ (times_id now.id (record_there view n).parts ≡ 0)
  pub part : IsRightPart (part_of n now)
  pub standard : IsTrue (is_base (record_there view n)) → now.kind ≡ STANDARD_INFORMATION → IsStandard (part_of n now)

-- A value may have this length: it is neither a list nor a name of a file, and a $STANDARD_INFORMATION has 48 bytes or 72.
pub record MayResize (was : Attribute) (len : ℕ) : Type 0 where
  pub value : IsSome (value_of was.body)
  pub no_list : was.kind ≢ ATTRIBUTE_LIST
  pub no_name : was.kind ≢ FILE_NAME
  pub standard : was.kind ≡ STANDARD_INFORMATION → (len ≡ 48) ⊎ (len ≡ 72)
