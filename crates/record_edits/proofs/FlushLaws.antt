-- THE FLUSH of the bitmaps is a call, and the clauses on them come back where the stored bytes are those of the bits in memory.
use Rattle.std.proofs.Common.{◌≡◌, ◌≢◌, ◌<◌, ◌≤◌, ◌==◌, ◌&&◌, ◌||◌, ℕ, Bool, true, false, List, length, Option, Some, None, refl, sym}
use Rattle.std.proofs.Common.{ap, ◌∙◌, arith}
use Rattle.std.specs.Prelude.{IsSome, is_some, nat_le, slice_get}
use Rattle.std.proofs.lemmas.Bool.{eq-eqb, eqb-true, le-leb, or_from, or_parts}
use Rattle.std.proofs.lemmas.Bool.Decides.{nat_tests}
use Rattle.std.proofs.lemmas.Option.{slice_get-get_or}
use Rattle.std.proofs.lemmas.List.FromFn.{length-map-range_with_len, get_or-map-range_with_len}
use Rattle.list_laws.specs.Bits.{bit_in, flags_in}
use Rattle.volume_def.specs.BitmapClauses.{MeetsClusterBits, MeetsRecordBits, cluster_bits, record_bits}
use Rattle.volume_def.specs.Values.{value_on}
use Rattle.volume_def.specs.View.{VolumeView}
use Rattle.ntfs_def.specs.declared.kinds.TheConstants.{ATTRIBUTE_LIST, BITMAP, DATA}
use Rattle.ntfs_def.specs.declared.records.TheConstants.{CLUSTER_BITMAP, MFT, MFT_MIRROR}
use Rattle.volume_def.specs.ListsClause.{MeetsLists}
use Rattle.edit_def.specs.Account.{nothing}
use Rattle.edit_def.specs.Edited.{Edited, StoresBits, is_bare, is_list_key, is_room_key}
use Rattle.edit_def.specs.Kept.{Key, key_of}
use Rattle.edit_def.specs.Marks.{IsEditable, Marks, StoresMarks}
use Rattle.edit_def.specs.Places.{KeepsBits}
use Rattle.record_edits.specs.Between.{IsReady}
use Rattle.record_edits.specs.InPlace.{WritesInPlace, is_bits_key}
use Rattle.record_edits.specs.Pending.{IsPending, Stepped}
use Rattle.record_edits.proofs.PendingStates.{edited-from, meets-none, no_key, owners-pending, pending-from, ready-from}
use Rattle.record_edits.proofs.PlaceEdits.{at-same, list-place, lists-kept, mirror_end, stepped}

flag-in : (bytes : List ℕ) (count n : ℕ) → n < count → slice_get (flags_in bytes count) n ≡ Some (bit_in bytes n == 1)
unfolding flags_in
flag-in bytes count n h =
    slice_get-get_or (flags_in bytes count) n false (omega (arith, length-map-range_with_len (λ k. bit_in bytes k == 1) 0 count))
    ∙ ap Some (get_or-map-range_with_len (λ k. bit_in bytes k == 1) 0 count n n false h (omega arith))

some-same : (a b : Bool) → Some a ≡ Some b → a ≡ b
some-same a b e = cc

from-test : (n : ℕ) → nat_le 1 n ≡ true → 1 ≤ n
from-test n e = grind (arith, nat_tests)

pub cluster_bits-flushed : (view : VolumeView) (marks : Marks) → IsEditable view marks → StoresMarks view marks → (n : ℕ)
    → MeetsClusterBits view n
cluster_bits-flushed view marks e stores n = record {
  plain = e.bitmaps.plain;
  placed = e.bitmaps.placed;
  long = λ h. omega (arith, e.bitmaps.long);
  written = λ h. omega (arith, e.bitmaps.written);
  bit = λ h.
      let same = some-same _ _ (sym (flag-in (value_on view (cluster_bits view)) view.layout.clusters n h) ∙ sym (ap
      (λ flags. slice_get flags n) stores.clusters) ∙ e.right.taken n h) in (
        λ set. from-test _ (sym same ∙ eq-eqb _ _ set),
        λ owned. eqb-true _ _ (same ∙ le-leb 1 _ owned),
      );
}

some-is : {A : Type 0} (o : Option A) → is_some o ≡ true → IsSome o
some-is None e = e
some-is (Some x) e = e

pub record_bits-flushed : (view : VolumeView) (marks : Marks) → IsEditable view marks → StoresMarks view marks → (n : ℕ)
    → MeetsRecordBits view n
record_bits-flushed view marks e stores n = record {
  bits = λ is. e.bitmaps.records;
  bit = λ low h.
      let same = some-same _ _ (sym (flag-in (value_on view (record_bits view)) view.layout.count n h) ∙ sym (stores.records n low h)
      ∙ e.right.used n low h) in (
        λ set. sym same ∙ eq-eqb _ _ set,
        λ used. eqb-true _ _ (same ∙ used),
      );
}

pub bits-stored : (view : VolumeView) (marks : Marks) → IsEditable view marks → StoresMarks view marks → StoresBits view
bits-stored view marks e stores = record {
  clusters = cluster_bits-flushed view marks e stores;
  records = record_bits-flushed view marks e stores;
}

-- THE FLUSH writes the bitmaps, which every call may, where the bits that stand for nothing stay.
bits-room : (key : Key) → is_room_key key ≡ false → is_bits_key key ≡ false
bits-room key e =
    let p = or_parts (is_list_key key || ((key.kind == BITMAP) && ((length key.name == 0) && (key.file == MFT)))) _ e in
    let q = or_parts (is_list_key key) ((key.kind == BITMAP) && ((length key.name == 0) && (key.file == MFT))) p.0 in
    or_from ((key.kind == BITMAP) && ((length key.name == 0) && (key.file == MFT))) _ q.1
    (by (key.kind == DATA) (length key.name == 0) (key.file == MFT) (key.file == MFT_MIRROR) (key.file == CLUSTER_BITMAP) p.1)
  where
    by : (a b c d f : Bool) → (a && (b && (c || d || f))) ≡ false → (a && (b && f)) ≡ false
    by false b c d f e = refl
    by true false c d f e = refl
    by true true false false f e = e
    by true true true d f e = cc
    by true true false true f e = cc

module _ (old new : VolumeView) (w : WritesInPlace is_bits_key old new) (stay : KeepsBits old new) (marks : Marks)
    (was : IsReady old marks) where
  before : IsPending MFT no_key old marks
  before = pending-from MFT no_key old marks was

  lists : (f : ℕ) → f ≢ MFT → (name : List ℕ) → is_bits_key (key_of f ATTRIBUTE_LIST name) ≡ false
  lists f other name = refl

  whole : Stepped MFT no_key (λ key. false) nothing old new marks marks
  whole = stepped is_bits_key old new w MFT no_key lists marks before (λ key. false)
      (λ key e. bits-room key (or_parts (is_room_key key) false e).0)
      (mirror_end is_bits_key old new w MFT no_key lists marks before refl) stay

  list-still : MeetsLists new MFT
  list-still = list-place is_bits_key old new w MFT (lists-kept is_bits_key old new w (owners-pending MFT no_key old marks before) MFT
      (λ name. refl))
      (was.editable.readable.lists MFT)

  pub edited-flush : Edited (λ key. false) nothing old new marks marks
  edited-flush = edited-from MFT no_key (λ key. false) nothing old new marks marks whole list-still
      (meets-none MFT new marks whole.pending)
      (λ n bare. sym (ap is_bare (at-same is_bits_key old new w n)) ∙ bare)

  pub ready-flush : IsReady new marks
  ready-flush = ready-from MFT no_key new marks list-still (meets-none MFT new marks whole.pending) whole.pending
