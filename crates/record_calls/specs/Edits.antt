-- A CALL ON ONE RECORD as an edit of one attribute, and what its caller shows of it beside what the call says.
use Rattle.std.specs.Prelude.{◌≡◌, ℕ, All, List}
use Rattle.ntfs_def.specs.Attribute.{Attribute}
use Rattle.ntfs_def.specs.Fixup.{opened_of}
use Rattle.volume_def.specs.AttributesClause.{IsRightRecord}
use Rattle.volume_def.specs.Files.{Record, file_of, record_of, records_of}
use Rattle.volume_def.specs.LimitsClause.{IsInLimits}
use Rattle.volume_def.specs.Readable.{IsFile}
use Rattle.volume_def.specs.View.{VolumeView}
use Rattle.edit_def.specs.Kept.{Key}
use Rattle.edit_def.specs.Marks.{Marks}
use Rattle.file_edits.specs.Between.{MayBeEdited}
use Rattle.file_edits.specs.Owners.{FollowsRuns, NamesRightly}
use Rattle.file_edits.specs.RecordEdit.{AllHave, EditsPart, parts_made}

-- what block n of the table means, opened
abbrev pub record_there : VolumeView → ℕ → Record
record_there view n = record_of n (opened_of (view.block n))

-- Record n is one of a file that may be edited, what goes and what comes are of the attribute, and the record that was stored is right and
-- in limits.
pub record IsRightEdit (key : Key) (old : VolumeView) (n : ℕ) (stored : List ℕ) (was now : List Attribute) : Type 0 where
  pub file : file_of n (record_there old n) ≡ key.file
  pub is_file : IsFile old key.file
  pub may : MayBeEdited key.file
  pub was_of : AllHave key was
  pub now_of : AllHave key now
  pub right : IsRightRecord n (record_of n (opened_of stored))
  pub limits : All (IsInLimits key.file) (parts_made n now)

-- The clusters that the attribute has newly, and those that it has no more, are named rightly, and the bits in memory follow.
pub record FollowsEdit (old : VolumeView) (before after : Marks) (n : ℕ) (was now : List Attribute) : Type 0 where
  pub names : NamesRightly (records_of old) old.layout.clusters (parts_made n was) (parts_made n now)
  pub follows : FollowsRuns before.clusters after.clusters (parts_made n was) (parts_made n now)
  pub rows : after.records ≡ before.records

-- THE CALL IS AN EDIT of the attribute: of record n, to this block, with these attributes in place of those.
pub record IsEdit (key : Key) (old new : VolumeView) (before after : Marks) (n : ℕ) (stored : List ℕ)
    (was now : List Attribute) : Type 0 where
  pub part : EditsPart key old new before after
  pub n_is : part.n ≡ n
  pub stored_is : part.stored ≡ stored
  pub was_is : part.was ≡ was
  pub now_is : part.now ≡ now
