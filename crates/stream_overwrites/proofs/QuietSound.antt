-- A SOUND VOLUME STAYS SOUND behind a call that names neither names, indexes nor the table of case, and leaves the bits in memory and the
-- stored ones.
use Rattle.std.proofs.Common.{◌≡◌, ◌≤◌, ◌<◌, ◌==◌, ℕ, Bool, false, List, [], Some, sym, ap, ◌∙◌, arith}
use Rattle.std.specs.Prelude.{is_some, nat_le, slice_get}
use Rattle.std.proofs.lemmas.Bool.{eq-eqb, eqb-true, le-leb, leb-true}
use Rattle.std.proofs.lemmas.List.FromFn.{get_or-map-range_with_len}
use Rattle.std.proofs.lemmas.Option.{slice_get-get_or}
use Rattle.ntfs_def.specs.declared.kinds.TheConstants.{DATA}
use Rattle.ntfs_def.specs.declared.records.TheConstants.{FIRST_ORDINARY, UPCASE}
use Rattle.list_laws.specs.Bits.{bit_in, flags_in}
use Rattle.list_laws.proofs.BoolLaws.{same-test}
use Rattle.list_laws.proofs.BitLaws.{length-flags}
use Rattle.volume_def.specs.BitmapClauses.{cluster_bits, record_bits}
use Rattle.volume_def.specs.Files.{record_on, records_of}
use Rattle.volume_def.specs.OwnersClause.{times_owned}
use Rattle.volume_def.specs.Sound.{ClusterBits, IsSound, Links, RecordBits, References}
use Rattle.volume_def.specs.Values.{value_on}
use Rattle.volume_def.specs.View.{VolumeView}
use Rattle.edit_def.specs.Account.{Wants}
use Rattle.edit_def.specs.Edited.{Edited}
use Rattle.edit_def.specs.Kept.{Key, key_of}
use Rattle.edit_def.specs.Marks.{AreRight, Marks, StoresMarks}
use Rattle.edit_def.specs.Names.{KeepsNames}
use Rattle.edit_def.proofs.NamesLaws.{stand-of}
use Rattle.command_edits.proofs.LinksAfter.{links-same}
use Rattle.record_calls.proofs.FlushLaws.{bits-stored}
use Rattle.command_edits.specs.Between.{IsBetween}
use Rattle.command_edits.specs.Keys.{NamesNoIndex}
use Rattle.command_edits.proofs.QuietCalls.{between-quiet}
use Rattle.command_edits.proofs.SoundBetween.{between-references, between-sound, sound-by, sound-stored, sound-whole}

-- THE STORED BITS of a sound volume are right.
abbrev pub stored_marks : VolumeView → Marks
stored_marks view = record {
  clusters = flags_in (value_on view (cluster_bits view)) view.layout.clusters;
  records = flags_in (value_on view (record_bits view)) view.layout.count;
}

flag-at : (bytes : List ℕ) (count n : ℕ) → n < count → slice_get (flags_in bytes count) n ≡ Some (bit_in bytes n == 1)
unfolding flags_in
flag-at bytes count n inside =
    slice_get-get_or (flags_in bytes count) n false (omega (arith, length-flags bytes count, inside))
    ∙ ap (λ (b : Bool). Some b) (get_or-map-range_with_len (λ k. bit_in bytes k == 1) 0 count n n false inside (omega arith))

pub stored-right : (view : VolumeView) → IsSound view → AreRight view (stored_marks view)
stored-right view sound = record {
  count = length-flags (value_on view (cluster_bits view)) view.layout.clusters;
  taken = λ c inside.
      let bits = value_on view (cluster_bits view) in
      flag-at bits view.layout.clusters c inside ∙ ap (λ (b : Bool). Some b) (taken c inside);
  rows = length-flags (value_on view (record_bits view)) view.layout.count;
  used = λ n low inside.
      let bits = value_on view (record_bits view) in
      flag-at bits view.layout.count n inside ∙ ap (λ (b : Bool). Some b) (used n low inside);
}
  where
    taken : (c : ℕ) → c < view.layout.clusters
        → (bit_in (value_on view (cluster_bits view)) c == 1) ≡ nat_le 1 (times_owned (records_of view) c)
    taken c inside =
        let bit = (sound ClusterBits c).bit inside in
        same-test (bit_in (value_on view (cluster_bits view)) c == 1) (nat_le 1 (times_owned (records_of view) c))
        (λ set. bit.0 (eqb-true _ 1 set), λ owned. eq-eqb _ 1 (bit.1 owned))
        (leb-true 1 (times_owned (records_of view) c), le-leb 1 (times_owned (records_of view) c))

    used : (n : ℕ) → FIRST_ORDINARY ≤ n → n < view.layout.count
        → (bit_in (value_on view (record_bits view)) n == 1) ≡ is_some (record_on view n)
    used n low inside =
        let bit = (sound RecordBits n).bit low inside in
        same-test (bit_in (value_on view (record_bits view)) n == 1) (is_some (record_on view n))
        (λ set. bit.0 (eqb-true _ 1 set), λ is. eq-eqb _ 1 (bit.1 is)) (λ is. is, λ is. is)

-- The stored bits are the same where their attributes have the values that they had.
pub stored-still : (old new : VolumeView) → new.layout ≡ old.layout
    → value_on new (cluster_bits new) ≡ value_on old (cluster_bits old)
    → value_on new (record_bits new) ≡ value_on old (record_bits old) → StoresMarks new (stored_marks old)
stored-still old new layout clusters records = record {
  clusters = λ i. flags_in (sym clusters i) (sym layout i).clusters;
  records = λ n low inside. λ i. slice_get (flags_in (sym records i) (sym layout i).count) n;
}

-- THE WHOLE
pub sound-behind : (changed : Key → Bool) (wants : Wants) (old new : VolumeView) (was now : Marks) → Edited changed wants old new was now
    → ((g : ℕ) → KeepsNames (records_of old) (records_of new) g) → changed (key_of UPCASE DATA []) ≡ false → NamesNoIndex changed
    → StoresMarks new now → IsSound old → IsSound new
sound-behind changed wants old new was now edited kept case indexes stores sound =
    let between : IsBetween new =
    between-quiet changed wants old new was now edited kept case indexes (between-sound old (sound-whole old sound)) in
    sound-stored new (sound-by new between (links-same old new (sound References) (sound Links)
    (stand-of (records_of new) (between-references new between)) kept))
    (bits-stored new now edited.editable stores)
