-- One of the records that are held, and that one edited, sealed and staged: what every edit of it shows of the file.
use Rattle.std.proofs.Common.{◌≡◌, ◌+◌, ◌*◌, ◌<◌, ◌≤◌, ℕ, List, Some, get_or, length, set, slice_get, refl, sym, ap, subst, ◌∙◌, arith}
use Rattle.std.specs.Prelude.{IsSomeAnd, IsTrue, OnOk, Result}
use Rattle.std.proofs.lemmas.List.{get_or-set_same, length-set}
use Rattle.std.proofs.lemmas.Option.{slice_get-get_or, slice_get_read, slice_get_within}
use Rattle.std.proofs.lemmas.Result.{on_ok_weaker}
use Rattle.list_laws.proofs.OptionLaws.{some-value}
use Rattle.ntfs_def.specs.Fixup.{Seals}
use Rattle.volume_def.specs.Coverage.{IsApart}
use Rattle.volume_def.specs.View.{ReplacesBlock, VolumeView}
use Rattle.file_record.specs.declared.held.Held.{Held}
use Rattle.file_record.specs.declared.parts.FileParts.{FileParts}
use Rattle.file_record.specs.Held.{RecordHeld, file_number, held_of}
use Rattle.file_record.specs.Written.{IsWholeFile, StagesHeld}
use Rattle.file_record.proofs.EditLaws.{EditsHeld, number-inside, whole-now}

-- what holds of a record that is held tells that it is
pub held-inside : (file : FileParts) (k : ℕ) (P : Held → Type 0) → RecordHeld file k P → k < length (held_of file)
held-inside file k P h = let w = some-value (slice_get (held_of file) k) P h in slice_get_within (held_of file) k w.0 w.1

-- THE RECORD. It is the one that is held at k.
module _ (file : FileParts) (k : ℕ) (one : Held) (is : one ≡ get_or (held_of file) k one) (inside : k < length (held_of file)) where
  record-read : slice_get (held_of file) k ≡ Some one
  record-read = slice_get_read (held_of file) (length (held_of file)) k one refl inside is

  pub record-has : (P : Held → Type 0) → RecordHeld file k P → P one
  record-has P h = subst (λ o. IsSomeAnd o P) record-read h

  pub record-gives : (P : Held → Type 0) → P one → RecordHeld file k P
  record-gives P h = subst (λ o. IsSomeAnd o P) (sym record-read) h

  -- .. and `now` is held there then
  pub record-gives_both : (now : Held) (held' : List Held) → held' ≡ set (held_of file) k now → (P : Held → Held → Type 0) → P one now
      → RecordHeld file k (λ was. IsSomeAnd (slice_get held' k) (P was))
  record-gives_both now held' e P h =
      let inside' : k < length held' = omega (arith, ap length e, length-set (held_of file) k now, inside) in
      let read = slice_get-get_or held' k now inside' ∙ ap (λ xs. Some (get_or xs k now)) e
      ∙ ap Some (get_or-set_same (held_of file) k now now inside) in
      record-gives (λ was. IsSomeAnd (slice_get held' k) (P was)) (subst (λ o. IsSomeAnd o (P one)) (sym read) h)

-- THE FILE. The record was edited, and sealed and staged where it is one of the table that is told.
module _ {T E : Type 0} (old new : VolumeView) (file : FileParts) (k : ℕ) (one now : Held) (is : one ≡ get_or (held_of file) k one)
    (inside : k < length (held_of file)) (same : now.number ≡ one.number) (r : Result T E) where
  stored-now : StagesHeld old new now.number now.block → IsApart old.layout → IsWholeFile old file
      → 1024 * one.number + 1024 ≤ old.layout.initialized
      → (stored : List ℕ) × Seals now.block stored × ReplacesBlock old new one.number stored
  stored-now staged apart whole low =
      let small = number-inside old file k one whole is inside in
      let w = staged (omega (arith, small, same)) apart (omega (arith, low, same)) in
      (w.0, w.1, subst (λ n. ReplacesBlock old new n w.0) same w.2)

  -- what an edit shows of the block that was stored, the volume has at the record's number
  pub record-edited : (P : ℕ → Type 0) → OnOk r (StagesHeld old new now.number now.block)
      → (IsTrue old.told → IsWholeFile old file → (stored : List ℕ) → Seals now.block stored → ReplacesBlock old new one.number stored
      → P one.number)
      → OnOk r (IsTrue old.told → IsApart old.layout → IsWholeFile old file
      → RecordHeld file k (λ held. 1024 * held.number + 1024 ≤ old.layout.initialized → P held.number))
  record-edited P staged shows =
      let weaker : StagesHeld old new now.number now.block → IsTrue old.told → IsApart old.layout → IsWholeFile old file
      → RecordHeld file k (λ held. 1024 * held.number + 1024 ≤ old.layout.initialized → P held.number) = λ staged told apart whole.
      record-gives file k one is inside (λ held. 1024 * held.number + 1024 ≤ old.layout.initialized → P held.number)
      (λ low. let w = stored-now staged apart whole low in shows told whole w.0 w.1 w.2) in
      on_ok_weaker r weaker staged

  -- what is held is the whole file again
  pub file-edited : EditsHeld one.block now.block → (file' : FileParts) → file_number file' ≡ file_number file
      → held_of file' ≡ set (held_of file) k now → OnOk r (StagesHeld old new now.number now.block)
      → OnOk r (IsTrue old.told → IsApart old.layout → IsWholeFile old file
      → RecordHeld file k (λ held. 1024 * held.number + 1024 ≤ old.layout.initialized) → IsWholeFile new file')
  file-edited edits file' number held' staged =
      let weaker : StagesHeld old new now.number now.block → IsTrue old.told → IsApart old.layout → IsWholeFile old file
      → RecordHeld file k (λ held. 1024 * held.number + 1024 ≤ old.layout.initialized) → IsWholeFile new file' =
      λ staged told apart whole there.
      let low = record-has file k one is inside (λ held. 1024 * held.number + 1024 ≤ old.layout.initialized) there in
      let w = stored-now staged apart whole low in
      whole-now old new file k one now w.0 told whole is inside same edits w.1 w.2 file' number held' in
      on_ok_weaker r weaker staged

  -- its sectors were staged
  pub record-staged : (P : ℕ → Type 0) → OnOk r (P now.number) → OnOk r (RecordHeld file k (λ held. P held.number))
  record-staged P staged =
      let weaker : P now.number → RecordHeld file k (λ held. P held.number) = λ h.
      record-gives file k one is inside (λ held. P held.number) (subst P same h) in
      on_ok_weaker r weaker staged
