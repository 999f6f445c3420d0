-- A CALL THAT WRITES IN PLACE, and a step that writes the list of a file.
use Rattle.std.proofs.Common.{◌≡◌, ◌≢◌, ◌/◌, ◌==◌, ℕ, Bool, true, false, List, [], refl, sym, ap, ◌∙◌}
use Rattle.std.proofs.lemmas.Bool.{and_from, eq-eqb, or_parts}
use Rattle.std.proofs.lemmas.Slice.Eq.{bytes_eq-Decides}
use Rattle.ntfs_def.specs.declared.kinds.TheConstants.{ATTRIBUTE_LIST, BITMAP, DATA}
use Rattle.ntfs_def.specs.declared.records.TheConstants.{CLUSTER_BITMAP, MFT, MFT_MIRROR}
use Rattle.volume_def.specs.ListsClause.{MeetsLists}
use Rattle.volume_def.specs.Files.{parts_at}
use Rattle.volume_def.specs.Table.{cluster_bytes}
use Rattle.volume_def.specs.Values.{spot_at}
use Rattle.volume_def.specs.View.{VolumeView}
use Rattle.volume_edits.specs.Clusters.{WritesStream}
use Rattle.edit_def.specs.Account.{nothing}
use Rattle.edit_def.specs.Edited.{Edited, is_bare, is_room_key}
use Rattle.edit_def.specs.Kept.{Key, key_of, same_key}
use Rattle.edit_def.specs.Marks.{Marks}
use Rattle.record_edits.specs.Between.{IsReady}
use Rattle.record_edits.specs.InPlace.{NamesListOf, NamesNoRoom, WritesInPlace}
use Rattle.record_edits.specs.Pending.{IsPending, Stepped}
use Rattle.record_edits.proofs.PendingStates.{edited-from, meets-none, no_key, owners-pending, pending-from, ready-from}
use Rattle.record_edits.proofs.PlaceEdits.{at-same, bits, list-place, lists-kept, mirror_end, stepped}

-- A CALL that writes in place, and names no room
module _ (changed : Key → Bool) (old new : VolumeView) (w : WritesInPlace changed old new) (marks : Marks) (was : IsReady old marks)
    (room : NamesNoRoom changed) where
  free : (f : ℕ) (name : List ℕ) → changed (key_of f ATTRIBUTE_LIST name) ≡ false
  free f name = room (key_of f ATTRIBUTE_LIST name) refl

  before : IsPending MFT no_key old marks
  before = pending-from MFT no_key old marks was

  lists : (f : ℕ) → f ≢ MFT → (name : List ℕ) → changed (key_of f ATTRIBUTE_LIST name) ≡ false
  lists f other = free f

  whole : Stepped MFT no_key changed nothing old new marks marks
  whole = stepped changed old new w MFT no_key lists marks before changed (λ key e. (or_parts (is_room_key key) (changed key) e).1)
      (mirror_end changed old new w MFT no_key lists marks before (room (key_of MFT_MIRROR DATA []) refl))
      (bits changed old new w MFT no_key lists marks before (room (key_of CLUSTER_BITMAP DATA []) refl) (room (key_of MFT BITMAP []) refl))

  list-still : MeetsLists new MFT
  list-still = list-place changed old new w MFT (lists-kept changed old new w (owners-pending MFT no_key old marks before) MFT (free MFT))
      (was.editable.readable.lists MFT)

  pub edited-place : Edited changed nothing old new marks marks
  edited-place = edited-from MFT no_key changed nothing old new marks marks whole list-still
      (meets-none MFT new marks whole.pending)
      (λ n bare. sym (ap is_bare (at-same changed old new w n)) ∙ bare)

  pub ready-place : IsReady new marks
  ready-place = ready-from MFT no_key new marks list-still (meets-none MFT new marks whole.pending) whole.pending

-- A STEP that writes the clusters of the list of one file
pub stepped-list : (f : ℕ) (lags changed : Key → Bool) (old new : VolumeView) → (w : WritesInPlace changed old new) → (marks : Marks)
    → (was : IsPending f lags old marks) → NamesListOf f changed → Stepped f lags changed nothing old new marks marks
stepped-list f lags changed old new w marks was room =
    let lists : (g : ℕ) → g ≢ f → (name : List ℕ) → changed (key_of g ATTRIBUTE_LIST name) ≡ false
    = λ g other name. room (key_of g ATTRIBUTE_LIST name) refl (λ is. other) in
    stepped changed old new w f lags lists marks was changed (λ key e. (or_parts (is_room_key key) (changed key) e).1)
    (mirror_end changed old new w f lags lists marks was (room (key_of MFT_MIRROR DATA []) refl (λ is. cc)))
    (bits changed old new w f lags lists marks was (room (key_of CLUSTER_BITMAP DATA []) refl (λ is. cc)) (room (key_of MFT BITMAP []) refl
    (λ is. cc)))

-- BYTES IN THE CLUSTERS OF A STREAM are written in place.
pub stream-place : (old new : VolumeView) (f kind : ℕ) (name : List ℕ) (at : ℕ) (bytes : List ℕ)
    → WritesStream old new (spot_at (parts_at old f kind name)) at bytes → WritesInPlace (same_key (key_of f kind name)) old new
stream-place old new f kind name at bytes w = record {
  told = w.told;
  layout = w.layout;
  blocks = w.blocks;
  copies = w.copies;
  rest = w.rest;
  clusters = λ c owned free. w.clusters c (λ i within. free f kind name itself (i / cluster_bytes old.layout));
}
  where
    itself : same_key (key_of f kind name) (key_of f kind name) ≡ true
    itself =
        and_from (kind == kind) _ (eq-eqb kind kind refl) (and_from (f == f) _ (eq-eqb f f refl) ((bytes_eq-Decides name name).1 refl))
