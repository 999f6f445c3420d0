-- STEPS WITHIN ONE CALL on a file, beside an edit of one attribute in one record: an attribute goes to another record of the file, and a
-- record without attributes comes to the file, or goes.
use Rattle.std.specs.Prelude.{◌≡◌, ◌≢◌, ◌⊎◌, ℕ, ◌<◌, ◌≤◌, Bool, false, true, List, [], ◌∷◌, IsTrue, None, Some, length, slice_get}
use Rattle.std.specs.Prelude.{filter, not, sum_by}
use Rattle.ntfs_def.specs.Attribute.{Attribute, attributes}
use Rattle.ntfs_def.specs.Fixup.{opened_of}
use Rattle.ntfs_def.specs.Record.{Reference, header_of, is_in_use}
use Rattle.ntfs_def.specs.declared.kinds.TheConstants.{ATTRIBUTE_LIST}
use Rattle.ntfs_def.specs.declared.records.TheConstants.{FIRST_ORDINARY}
use Rattle.volume_def.specs.AttributesClause.{IsRightRecord}
use Rattle.volume_def.specs.Files.{Part, Record, Records, file_of, is_base, record_of, record_on, records_of}
use Rattle.volume_def.specs.ListsClause.{is_list}
use Rattle.volume_def.specs.Readable.{IsFile}
use Rattle.volume_def.specs.ReferencesClause.{NamesBase}
use Rattle.volume_def.specs.Room.{longest_name}
use Rattle.volume_def.specs.Table.{IsWellFormed}
use Rattle.volume_def.specs.View.{ReplacesBlock, VolumeView}
use Rattle.edit_def.specs.Account.{Wants}
use Rattle.edit_def.specs.Edited.{is_bare}
use Rattle.edit_def.specs.Forms.{form_of}
use Rattle.edit_def.specs.Kept.{AreTellable, told_of}
use Rattle.edit_def.specs.Marks.{Marks}
use Rattle.edit_def.specs.Purses.{is_emptied, part_size}
use Rattle.record_edits.specs.Between.{MayBeEdited}
use Rattle.volume_edits.specs.Rewritten.{EditsBlock}

-- Of the bits in memory that of record n was set so, and no other.
pub record SetsRow (before after : Marks) (n : ℕ) (used : Bool) : Type 0 where
  pub clusters : after.clusters ≡ before.clusters
  pub count : length after.records ≡ length before.records
  pub row : slice_get after.records n ≡ Some used
  pub others : (m : ℕ) → m ≢ n → slice_get after.records m ≡ slice_get before.records m

-- A RECORD COMES to file f: an extension record without attributes stands in a block that was not in use.
pub record TakesExtension (f : ℕ) (old new : VolumeView) (before after : Marks) : Type 0 where
  pub told : IsTrue old.told
  pub n : ℕ
  pub stored : List ℕ
  pub replaces : ReplacesBlock old new n stored
  pub ordinary : FIRST_ORDINARY ≤ n
  pub inside : n < old.layout.count
  pub free : record_on old n ≡ None
  pub used : IsTrue (is_in_use stored)
  pub well : IsWellFormed stored
  pub empty : attributes (opened_of stored) ≡ []
  pub base : Reference
  pub base_is : (header_of (opened_of stored)).base ≡ Some base
  pub names : NamesBase (records_of old) base
  pub file : base.number ≡ f
  pub row : SetsRow before after n true

-- A RECORD GOES: an extension record of file f that has no attribute is not in use any more.
pub record FreesExtension (f : ℕ) (old new : VolumeView) (before after : Marks) : Type 0 where
  pub told : IsTrue old.told
  pub n : ℕ
  pub stored : List ℕ
  pub replaces : ReplacesBlock old new n stored
  pub ordinary : FIRST_ORDINARY ≤ n
  pub inside : n < old.layout.count
  pub used : IsTrue (is_in_use (old.block n))
  pub empty : attributes (opened_of (old.block n)) ≡ []
  pub extension : is_base (record_of n (opened_of (old.block n))) ≡ false
  pub file : file_of n (record_of n (opened_of (old.block n))) ≡ f
  pub gone : is_in_use stored ≡ false
  pub row : SetsRow before after n false

-- AN ATTRIBUTE GOES TO ANOTHER RECORD of file f, the same but for its id. It is no list, and does not come into a base record that was
-- emptied. The names of the file's attributes can be told apart.
pub record MovesAttribute (f : ℕ) (old new : VolumeView) : Type 0 where
  pub mid : VolumeView
  pub from : ℕ
  pub to : ℕ
  pub stored_from : List ℕ
  pub stored_to : List ℕ
  pub was : Attribute
  pub now : Attribute
  pub leaves : EditsBlock old mid from stored_from (was ∷ []) []
  pub comes : EditsBlock mid new to stored_to [] (now ∷ [])
  pub apart : from ≢ to
  pub file_from : file_of from (record_of from (opened_of (old.block from))) ≡ f
  pub file_to : file_of to (record_of to (opened_of (mid.block to))) ≡ f
  pub is_file : IsFile old f
  pub may : MayBeEdited f
  pub kind : now.kind ≡ was.kind
  pub name : now.name ≡ was.name
  pub flags : now.flags ≡ was.flags
  pub body : now.body ≡ was.body
  pub form : form_of now ≡ form_of was
  pub plain : was.kind ≢ ATTRIBUTE_LIST
  pub right_from : IsRightRecord from (record_of from (opened_of stored_from))
  pub right_to : IsRightRecord to (record_of to (opened_of stored_to))
  pub tellable : AreTellable (told_of old f)
  pub still : is_emptied (record_on mid to) ≡ false

-- THE LIST of a file was written anew in record n, or went, and owns no more clusters than it owned. A base record that was emptied stays
-- so, unless it is that of a file which goes.
pub record ShrinksList (goes : ℕ → Bool) (old new : Records) (n : ℕ) (was now : List Part) : Type 0 where
  pub was_lists : filter (λ part. not (is_list part)) was ≡ []
  pub now_lists : filter (λ part. not (is_list part)) now ≡ []
  pub clusters : sum_by part_size now ≤ sum_by part_size was
  pub unnamed : longest_name now ≡ 0
  pub emptied : (goes n ≡ true) ⊎ (is_emptied (old.record_at n) ≡ true → is_emptied (new.record_at n) ≡ true)

-- A record of file f that has no attribute had none.
abbrev pub LeavesNoneBare : VolumeView → VolumeView → ℕ → Type 0
LeavesNoneBare old new f = (n : ℕ) (r : Record) → record_on new n ≡ Some r → file_of n r ≡ f → r.parts ≡ []
    → is_bare (record_on old n) ≡ true

-- the bill of a record that comes
abbrev pub one_record : Wants
one_record = record { clusters = 0; parts = λ f. 0; units = λ f. 0; goes = λ f. false; records = 1 }
