-- Where security descriptors stand in the stream of descriptors.
use Rattle.std.specs.Prelude.{◌≡◌, ◌≤◌, ◌+◌, ◌-◌, ℕ, List, codes, length, slice_range, take, Option, Some, None}
use Rattle.ntfs_def.specs.Units.{wide}
use Rattle.ntfs_def.specs.ViewData.{security_offset, security_size}
use Rattle.ntfs_def.specs.declared.kinds.TheConstants.{DATA}
use Rattle.volume_def.specs.Values.{IsPlain, value_on}
use Rattle.volume_def.specs.View.{VolumeView}
use Rattle.tree_model.specs.Facts.{HasDescriptor, sds_parts}
use Rattle.file_record.specs.declared.parts.FileParts.{FileParts}
use Rattle.index_store.specs.First.{IsStored}
use Rattle.view_index.specs.declared.place.Place.{Place}

-- What the data of an entry tell of lies in the stream of descriptors, behind a header that is the same.
pub record TellsRange (view : VolumeView) (data_of : List ℕ) : Type 0 where
  pub plain : IsPlain (sds_parts view)
  pub long : 20 ≤ length data_of
  pub least : 20 ≤ security_size data_of
  pub most : security_size data_of ≤ 65556
  pub inside : security_offset data_of + security_size data_of ≤ length (value_on view (sds_parts view))
  pub header : slice_range (value_on view (sds_parts view)) (security_offset data_of) (security_offset data_of + 20) ≡ take 20 data_of

-- The data tell of this place.
pub record TellsPlace (view : VolumeView) (file : FileParts) (data_of : List ℕ) (place : Place) : Type 0 where
  pub tells : TellsRange view data_of
  pub stored : IsStored file DATA (wide (codes "$SDS")) place.stream
  pub at : place.at ≡ security_offset data_of + 20
  pub len : place.len ≡ security_size data_of - 20

-- The same, or they tell of none.
abbrev pub TellsPlaceIfThere : VolumeView → FileParts → List ℕ → Option Place → Type 0
TellsPlaceIfThere view file data_of None = ¬ (TellsRange view data_of)
TellsPlaceIfThere view file data_of (Some place) = TellsPlace view file data_of place

-- THE DESCRIPTOR OF AN ID STANDS AT THIS PLACE.
pub record HasPlace (view : VolumeView) (file : FileParts) (id : ℕ) (place : Place) : Type 0 where
  pub stored : IsStored file DATA (wide (codes "$SDS")) place.stream
  pub inside : place.at + place.len ≤ place.stream.len
  pub is : HasDescriptor view id (slice_range (value_on view (sds_parts view)) place.at (place.at + place.len))

-- The same, or the id has none.
abbrev pub HasPlaceIfThere : VolumeView → FileParts → ℕ → Option Place → Type 0
HasPlaceIfThere view file id None = (bytes : List ℕ) → ¬ (HasDescriptor view id bytes)
HasPlaceIfThere view file id (Some place) = HasPlace view file id place
