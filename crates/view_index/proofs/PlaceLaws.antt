-- What is held of the stream of descriptors, and what the data of an entry tell of it.
use Rattle.std.proofs.Common.{◌≡◌, ◌≤◌, ◌+◌, ◌-◌, ℕ, List, length, Option, Some, None, refl, sym, ap, subst, ◌∙◌, arith, filter}
use Rattle.std.specs.Prelude.{Bool, codes, is_some, slice_range, take}
use Rattle.ntfs_def.specs.Node.{item_in}
use Rattle.ntfs_def.specs.Units.{wide}
use Rattle.ntfs_def.specs.ViewData.{item_data, security_offset, security_size}
use Rattle.ntfs_def.specs.declared.kinds.TheConstants.{DATA}
use Rattle.volume_def.specs.Files.{Part, is_of, parts_at}
use Rattle.volume_def.specs.Values.{IsPlain, value_on}
use Rattle.volume_def.specs.View.{VolumeView}
use Rattle.tree_model.specs.Facts.{HasDescriptor, sds_parts}
use Rattle.file_record.specs.declared.parts.FileParts.{FileParts}
use Rattle.index_store.specs.First.{IsStored, attribute_held}
use Rattle.index_store.specs.Stored.{Stored}
use Rattle.index_store.proofs.StoredLaws.{stored-length}
use Rattle.view_index.specs.Places.{HasPlace, HasPlaceIfThere, TellsPlace, TellsPlaceIfThere, TellsRange}
use Rattle.view_index.specs.Security.{IsEntryOf, IsHeldSecurity, TellsWhether}
use Rattle.view_index.specs.declared.place.Place.{Place}
use Rattle.view_index.proofs.IdLaws.{only-item}

abbrev pub sds : List ℕ
sds = wide (codes "$SDS")

module _ (view : VolumeView) (file : FileParts) (held : IsHeldSecurity view file) where
  pub same-stream : attribute_held file DATA sds ≡ sds_parts view
  same-stream = ap (filter (is_of DATA sds)) held.held.parts.parts ∙ ap (λ f. parts_at view f DATA sds) held.number

  pub stream-length : (stream : Stored) → IsStored file DATA sds stream → length (value_on view (sds_parts view)) ≡ stream.len
  stream-length stream s =
      sym (ap (λ (ps : List Part). length (value_on view ps)) same-stream) ∙ stored-length view file DATA sds stream s

  -- the place that the data of an entry tell of, where all of it was found
  pub place-found : (data_of : List ℕ) (stream : Stored) (offset size : ℕ) → IsStored file DATA sds stream
      → IsPlain (attribute_held file DATA sds) → 20 ≤ length data_of → offset ≡ security_offset data_of → size ≡ security_size data_of
      → 20 ≤ size → size ≤ 65556 → offset + size ≤ stream.len
      → slice_range (value_on view (attribute_held file DATA sds)) offset (offset + 20) ≡ take 20 data_of
      → TellsPlace view file data_of (record { stream = stream; at = offset + 20; len = size - 20 })
  place-found data_of stream offset size stored plain long offset_is size_is least most inside header =
      let all = value_on view (sds_parts view) in
      record {
        tells = record {
          plain = subst IsPlain same-stream plain;
          long = long;
          least = subst (λ n. 20 ≤ n) size_is least;
          most = subst (λ n. n ≤ 65556) size_is most;
          inside = omega (arith, offset_is, size_is, inside, stream-length stream stored);
          header = sym (ap (λ n. slice_range all n (n + 20)) offset_is)
              ∙ sym (ap (λ (ps : List Part). slice_range (value_on view ps) offset (offset + 20)) same-stream) ∙ header;
        };
        stored = stored;
        at = ap (λ n. n + 20) offset_is;
        len = ap (λ n. n - 20) size_is;
      }

  -- the bytes that were read at the place of a descriptor are the descriptor
  pub bytes-told : (id : ℕ) (place : Place) (bytes : List ℕ) → HasPlace view file id place
      → bytes ≡ slice_range (value_on view (attribute_held file DATA sds)) place.at (place.at + place.len) → HasDescriptor view id bytes
  bytes-told id place bytes has read =
      subst (HasDescriptor view id)
      (sym (read ∙ ap (λ (ps : List Part). slice_range (value_on view ps) place.at (place.at + place.len)) same-stream)) has.is

  -- what tells of a descriptor tells of a range of the stream
  pub range-told : (id : ℕ) (entry bytes : List ℕ) → IsEntryOf view id entry → HasDescriptor view id bytes
      → TellsRange view (item_data (item_in entry))
  range-told id entry bytes is has =
      let all = value_on view (sds_parts view) in
      let same = ap item_data (only-item view id entry bytes is has) in
      let offset : has.offset ≡ security_offset (item_data (item_in entry)) = has.offset_is ∙ ap security_offset same in
      let size : has.size ≡ security_size (item_data (item_in entry)) = has.size_is ∙ ap security_size same in
      record {
        plain = has.plain;
        long = subst (λ d. 20 ≤ length d) same has.long;
        least = subst (λ n. 20 ≤ n) size has.least;
        most = subst (λ n. n ≤ 65556) size has.most;
        inside = subst (λ n. n + security_size (item_data (item_in entry)) ≤ length all) offset
            (subst (λ n. has.offset + n ≤ length all) size has.inside);
        header = sym (ap (λ n. slice_range all n (n + 20)) offset) ∙ has.header ∙ ap (take 20) same;
      }

  -- what the entry of an id tells of is the descriptor of the id
  pub place-told : (id : ℕ) (entry : List ℕ) (found : Option Place) → IsEntryOf view id entry
      → TellsPlaceIfThere view file (item_data (item_in entry)) found → HasPlaceIfThere view file id found
  place-told id entry None is none = λ bytes has. none (range-told id entry bytes is has)
  place-told id entry (Some place) is told =
      let offset = security_offset (item_data (item_in entry)) in
      let size = security_size (item_data (item_in entry)) in
      let end : place.at + place.len ≡ offset + size = omega (arith, told.at, told.len, told.tells.least) in
      record {
        stored = told.stored;
        inside = omega (arith, end, told.tells.inside, stream-length place.stream told.stored);
        is = record {
          plain = told.tells.plain;
          index = is.index;
          item = item_in entry;
          among = is.among;
          key = is.key;
          long = told.tells.long;
          offset = offset;
          offset_is = refl;
          size = size;
          size_is = refl;
          least = told.tells.least;
          most = told.tells.most;
          inside = told.tells.inside;
          header = told.tells.header;
          is = ap (λ from. slice_range (value_on view (sds_parts view)) from (place.at + place.len)) told.at
              ∙ ap (slice_range (value_on view (sds_parts view)) (offset + 20)) end;
        };
      }

-- whether a place is there says whether the id has a descriptor
pub whether-told : (view : VolumeView) (file : FileParts) (id : ℕ) (found : Option Place) (there : Bool) → there ≡ is_some found
    → HasPlaceIfThere view file id found → TellsWhether view id there
whether-told view file id None there e none = subst (TellsWhether view id) (sym e) none
whether-told view file id (Some place) there e has =
    subst (TellsWhether view id) (sym e) (slice_range (value_on view (sds_parts view)) place.at (place.at + place.len), has.is)
