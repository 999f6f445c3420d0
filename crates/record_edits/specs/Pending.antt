-- WITHIN ONE CALL on a file that edits several of its records: all that stands between two calls, but that its list may lag behind its
-- parts, and an attribute with parts in several records behind the clause on extents.
use Rattle.std.specs.Prelude.{◌≡◌, ◌≢◌, ℕ, ◌<◌, Bool, false, Some, None}
use Rattle.ntfs_def.specs.declared.records.TheConstants.{FIRST_ORDINARY}
use Rattle.volume_def.specs.AttributesClause.{MeetsAttributes}
use Rattle.volume_def.specs.ExtentsClause.{MeetsExtents}
use Rattle.volume_def.specs.Files.{Record, file_of, record_on, records_of}
use Rattle.volume_def.specs.ListsClause.{MeetsLists}
use Rattle.volume_def.specs.OwnersClause.{MeetsOwners}
use Rattle.volume_def.specs.Readable.{IsFile}
use Rattle.volume_def.specs.ShapeClause.{MeetsShape}
use Rattle.volume_def.specs.Sound.{Holds}
use Rattle.volume_def.specs.Sound.{Limits, Mirror, MirrorPlace, Version}
use Rattle.volume_def.specs.Table.{cluster_bytes}
use Rattle.volume_def.specs.View.{VolumeView}
use Rattle.edit_def.specs.Account.{Keeps, Wants}
use Rattle.edit_def.specs.Edited.{SameVolume, is_list_key, is_room_key}
use Rattle.edit_def.specs.Forms.{KeepsForms}
use Rattle.edit_def.specs.Kept.{KeepsBut, Key, either}
use Rattle.edit_def.specs.Marks.{AreRight, HasBitmaps, Marks}
use Rattle.edit_def.specs.Names.{HasRightBases}
use Rattle.edit_def.specs.Places.{StaysInPlace}
use Rattle.edit_def.specs.Purses.{room_of}
use Rattle.record_edits.specs.Between.{HasTableData}
use Rattle.record_edits.specs.Whole.{IsWhole}

-- What `IsReady` says, but that of file f the list and the attributes `lags` may lag behind.
pub record IsPending (f : ℕ) (lags : Key → Bool) (view : VolumeView) (marks : Marks) : Type 0 where
  pub shape : (n : ℕ) → MeetsShape view n
  pub attributes : (n : ℕ) → MeetsAttributes (records_of view) n
  pub lists : (n : ℕ) → n ≢ f → MeetsLists view n
  pub extents : (n : ℕ) → n ≢ f → MeetsExtents (records_of view) (cluster_bytes view.layout) n
  pub streams : IsFile view f → (key : Key) → key.file ≡ f → lags key ≡ false → IsWhole view key
  pub owners : (n : ℕ) → MeetsOwners (records_of view) view.layout.clusters n
  pub version : Holds view Version
  pub mirror_place : Holds view MirrorPlace
  pub mirror : Holds view Mirror
  pub bitmaps : HasBitmaps view
  pub right : AreRight view marks
  pub limits : Holds view Limits
  pub bases : HasRightBases (records_of view)
  pub table : HasTableData view

-- A STEP WITHIN ONE CALL on file f promises all that a call does, but that the file's own list is right, that its attributes `lags` are
-- whole, and that no record of it is left without an attribute.
pub record Stepped (f : ℕ) (lags changed : Key → Bool) (wants : Wants) (old new : VolumeView) (was now : Marks) : Type 0 where
  pub told : new.told ≡ old.told
  pub volume : SameVolume old.layout new.layout
  pub rest : (k : ℕ) → new.rest k ≡ old.rest k
  pub kept : KeepsBut (either is_room_key changed) old new
  pub forms : (g : ℕ) → KeepsForms (either is_list_key changed) old new g
  pub places : StaysInPlace old new
  pub spent : Keeps (room_of old) (room_of new) wants
  pub pending : IsPending f lags new now
  pub system : (n : ℕ) → n < FIRST_ORDINARY → record_on old n ≡ None → record_on new n ≡ None
  -- a record of another file is the one that it was; one of this file may have no attribute meanwhile
  pub others : (n : ℕ) (r : Record) → record_on new n ≡ Some r → file_of n r ≢ f → record_on old n ≡ Some r
