-- AN EDIT OF ONE RECORD, of one attribute: what a call has to show of it, to be an edit.
use Rattle.std.specs.Prelude.{◌≡◌, ◌≢◌, ℕ, All, List, [], map}
use Rattle.ntfs_def.specs.Attribute.{Attribute, attributes}
use Rattle.ntfs_def.specs.Fixup.{opened_of}
use Rattle.volume_def.specs.AttributesClause.{IsRightRecord}
use Rattle.volume_def.specs.Files.{Part, file_of, part_of, parts, record_of, records_of}
use Rattle.volume_def.specs.LimitsClause.{IsInLimits}
use Rattle.volume_def.specs.ListsClause.{HasRightList}
use Rattle.volume_def.specs.Readable.{IsFile}
use Rattle.volume_def.specs.View.{VolumeView}
use Rattle.volume_edits.specs.Rewritten.{EditsBlock}
use Rattle.edit_def.specs.Account.{Wants}
use Rattle.edit_def.specs.Kept.{Key}
use Rattle.edit_def.specs.Marks.{Marks}
use Rattle.edit_def.specs.Purses.{Costs}
use Rattle.record_edits.specs.Between.{MayBeEdited}
use Rattle.record_edits.specs.Owners.{FollowsRuns, NamesRightly}
use Rattle.record_edits.specs.Whole.{IsWhole}

-- the attribute is of this type and name
pub record HasKey (key : Key) (attribute : Attribute) : Type 0 where
  pub kind : attribute.kind ≡ key.kind
  pub name : attribute.name ≡ key.name

abbrev pub AllHave : Key → List Attribute → Type 0
AllHave key list = All (HasKey key) list

-- the attributes of record n as parts
abbrev pub parts_made : ℕ → List Attribute → List Part
parts_made n list = map (part_of n) list

-- One attribute of a file was edited in one of its records. `before` and `after` are the bits in memory.
pub record EditsPart (key : Key) (old new : VolumeView) (before after : Marks) : Type 0 where
  -- the record
  pub n : ℕ
  pub stored : List ℕ
  pub was : List Attribute
  pub now : List Attribute
  pub block : EditsBlock old new n stored was now
  -- the attribute
  pub file : file_of n (record_of n (opened_of (old.block n))) ≡ key.file
  pub is_file : IsFile old key.file
  pub may : MayBeEdited key.file
  pub was_of : AllHave key was
  pub now_of : AllHave key now
  -- what the clauses ask of the record
  pub right : IsRightRecord n (record_of n (opened_of stored))
  pub limits : All (IsInLimits key.file) (parts_made n now)
  -- owners and bits
  pub names : NamesRightly (records_of old) old.layout.clusters (parts_made n was) (parts_made n now)
  pub follows : FollowsRuns before.clusters after.clusters (parts_made n was) (parts_made n now)
  pub rows : after.records ≡ before.records

-- .. and that the record has an attribute still, that the attribute is whole, that the file's own list is right, and what it takes: an
-- editing call whole.
pub record EditsRecord (key : Key) (wants : Wants) (old new : VolumeView) (before after : Marks) : Type 0 where
  pub part : EditsPart key old new before after
  pub held : attributes (opened_of part.stored) ≢ []
  pub stream : IsWhole new key
  pub list : HasRightList new key.file (parts (records_of new) key.file)
  pub costs : Costs (records_of old) (records_of new) part.n key.file (parts_made part.n part.was) (parts_made part.n part.now) wants
