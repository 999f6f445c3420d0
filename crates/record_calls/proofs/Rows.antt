-- The flags of records: which are free, and one that is set.
use Rattle.std.proofs.Common.{◌≡◌, ◌≢◌, ◌⊎◌, ◌+◌, ◌<◌, ◌≤◌, ℕ, true, false, length, Option, Some, None}
use Rattle.std.proofs.Common.{refl, sym, inl, inr, ◌∙◌, arith}
use Rattle.std.specs.Prelude.{is_some}
use Rattle.std.proofs.lemmas.Bool.{cases_lt}
use Rattle.std.proofs.lemmas.Option.{slice_get_within}
use Rattle.list_laws.proofs.OptionLaws.{some_same}
use Rattle.cluster_bitmap.proofs.FlagLaws.{length-with_all}
use Rattle.cluster_bitmap.proofs.TakenLaws.{put-inside, put-outside}
use Rattle.volume_def.specs.Files.{record_on}
use Rattle.volume_def.specs.View.{VolumeView}
use Rattle.file_record.specs.MountedType.{Mounted}
use Rattle.file_record.specs.Changes.{with_record_given, with_record_taken}
use Rattle.file_record.specs.FreeRecords.{IsOrdinaryFree}
use Rattle.edit_def.specs.Marks.{AreRight, Marks}
use Rattle.file_edits.specs.Steps.{SetsRow}
use Rattle.record_calls.specs.Marks.{marks_of}

pub free-inside : (view : VolumeView) (marks : Marks) (n : ℕ) → AreRight view marks → IsOrdinaryFree marks.records n → n < view.layout.count
free-inside view marks n right free =
    let within = slice_get_within marks.records n false (free.1 n (omega arith) (omega arith)) in
    let rows = right.rows in
    omega arith

pub free-unused : (view : VolumeView) (marks : Marks) (n : ℕ) → AreRight view marks → IsOrdinaryFree marks.records n
    → record_on view n ≡ None
free-unused view marks n right free =
    by (record_on view n)
    (some_same (sym (right.used n free.0 (free-inside view marks n right free)) ∙ free.1 n (omega arith) (omega arith)))
  where
    by : {A : Type 0} (o : Option A) → is_some o ≡ false → o ≡ None
    by None e = refl
    by (Some x) e = cc

beside : (n m : ℕ) → m ≢ n → (m < n) ⊎ (n + 1 ≤ m)
beside n m ne = elim (cases_lt m n) [ inl low ↦ inl low | inr high ↦ inr (omega arith) ]

pub row-taken : (mounted : Mounted) (n : ℕ) → n < length mounted.records
    → SetsRow (marks_of mounted) (marks_of (with_record_taken mounted n)) n true
row-taken mounted n inside = record {
  clusters = refl;
  count = length-with_all true mounted.records n 1 (omega arith);
  row = put-inside true mounted.records n 1 n (omega arith) (omega arith) (omega arith);
  others = λ m ne. put-outside true mounted.records n 1 m (omega arith) (beside n m ne);
}

pub row-given : (mounted : Mounted) (n : ℕ) → n < length mounted.records
    → SetsRow (marks_of mounted) (marks_of (with_record_given mounted n)) n false
row-given mounted n inside = record {
  clusters = refl;
  count = length-with_all false mounted.records n 1 (omega arith);
  row = put-inside false mounted.records n 1 n (omega arith) (omega arith) (omega arith);
  others = λ m ne. put-outside false mounted.records n 1 m (omega arith) (beside n m ne);
}

-- a free flag is one of those that there are
pub free-within : (mounted : Mounted) (n : ℕ) → IsOrdinaryFree mounted.records n → n < length mounted.records
free-within mounted n free = slice_get_within mounted.records n false (free.1 n (omega arith) (omega arith))
