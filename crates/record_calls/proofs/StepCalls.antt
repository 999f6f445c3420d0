-- CALLS WITH VALUES on any record of a file, as steps within one call on the file.
use Rattle.std.proofs.Common.{◌≡◌, ◌≢◌, ◌/◌, ◌≤◌, ℕ, Bool, false, List, [], ◌∷◌, length, refl, subst}
use Rattle.std.specs.Prelude.{IfSome, IsSome}
use Rattle.ntfs_def.specs.Attribute.{Attribute, attribute_at, value_of}
use Rattle.attr_view.specs.Values.{with_length}
use Rattle.ntfs_def.specs.Fixup.{opened_of}
use Rattle.ntfs_def.specs.declared.kinds.TheConstants.{ATTRIBUTE_LIST}
use Rattle.volume_def.specs.AttributesClause.{IsRightRecord}
use Rattle.volume_def.specs.Files.{record_of, record_on, records_of}
use Rattle.volume_def.specs.View.{VolumeView}
use Rattle.volume_edits.specs.Rewritten.{EditsBlock, RewritesRecord}
use Rattle.edit_def.specs.Account.{Wants, nothing}
use Rattle.edit_def.specs.Kept.{Key, either, key_of, same_key}
use Rattle.edit_def.specs.Marks.{Marks}
use Rattle.edit_def.specs.Purses.{Costs, is_emptied}
use Rattle.file_edits.specs.Pending.{IsPending, Stepped}
use Rattle.file_edits.specs.RecordEdit.{AllHave, parts_made}
use Rattle.file_edits.proofs.BlockEdits.{was-at}
use Rattle.file_edits.proofs.StepLaws.{step-edit}
use Rattle.file_record.specs.Attributes.{InsertsAttribute, RemovesAttribute, ResizesAttribute}
use Rattle.record_calls.specs.Calls.{IsOtherValue, MayCome, MayEditIn, MayReplace, MayResize}
use Rattle.record_calls.specs.Edits.{record_there}
use Rattle.record_calls.proofs.EditCalls.{edit-values}
use Rattle.record_calls.proofs.RightRecords.{right-go, right-resize}
use Rattle.record_calls.proofs.ValueEdits.{come-costs, come-right, edit-right, go-costs, has-key, has-none, put-costs, replace-right}
use Rattle.record_calls.proofs.Values.{AreValues, no-value, one-value, value-mapped}

module _ (f n : ℕ) (lags : Key → Bool) (old new : VolumeView) (marks : Marks) (pending : IsPending f lags old marks)
    (one : MayEditIn old f n) (stored : List ℕ) (was now : List Attribute) (block : EditsBlock old new n stored was now) where
  -- the record was right
  was-right : IsRightRecord n (record_there old n)
  was-right = subst (λ o. IfSome o (IsRightRecord n)) (was-at old new n stored was now block) (pending.attributes n)

  step : (kind : ℕ) (name : List ℕ) (wants : Wants) → AreValues was → AreValues now → IsRightRecord n (record_of n (opened_of stored))
      → AllHave (key_of f kind name) was → AllHave (key_of f kind name) now
      → Costs (records_of old) (records_of new) n f (parts_made n was) (parts_made n now) wants
      → Stepped f (either (same_key (key_of f kind name)) lags) (same_key (key_of f kind name)) wants old new marks marks
  step kind name wants values_was values_now right was_of now_of costs =
      step-edit (key_of f kind name) lags wants old new marks marks
      (edit-values (key_of f kind name) old new marks n stored was now block values_was values_now
      (edit-right f n old one stored was now kind name values_now was_of now_of right)).part costs pending

pub step-comes : (f n i : ℕ) (lags : Key → Bool) (old new : VolumeView) (marks : Marks) (attr : List ℕ) (wants : Wants)
    → InsertsAttribute old new n i attr → IsPending f lags old marks → MayEditIn old f n → MayCome old n i (attribute_at attr 0)
    → is_emptied (record_on old n) ≡ false → 1 ≤ wants.parts f → length (attribute_at attr 0).name / 2 ≤ wants.units f
    → Stepped f (either (same_key (key_of f (attribute_at attr 0).kind (attribute_at attr 0).name)) lags)
    (same_key (key_of f (attribute_at attr 0).kind (attribute_at attr 0).name)) wants old new marks marks
step-comes f n i lags old new marks attr wants e pending one may still parts units =
    let a : Attribute = attribute_at attr 0 in
    step f n lags old new marks pending one e.stored [] (a ∷ []) e.edits a.kind a.name wants no-value (one-value a may.other.value)
    (come-right n i old new attr e (was-right f n lags old new marks pending one e.stored [] (a ∷ []) e.edits) may)
    (has-none (key_of f a.kind a.name)) (has-key f a a refl refl)
    (come-costs f n old new one e.stored a e.edits may.other may.units still wants parts units)

pub step-goes : (f n i : ℕ) (lags : Key → Bool) (old new : VolumeView) (marks : Marks) → (e : RemovesAttribute old new n i)
    → IsPending f lags old marks → MayEditIn old f n → IsOtherValue e.was
    → Stepped f (either (same_key (key_of f e.was.kind e.was.name)) lags) (same_key (key_of f e.was.kind e.was.name)) nothing old new marks
    marks
step-goes f n i lags old new marks e pending one other =
    step f n lags old new marks pending one e.stored (e.was ∷ []) [] e.edits e.was.kind e.was.name nothing (one-value e.was other.value)
    no-value
    (right-go old new n e.stored e.was e.edits (was-right f n lags old new marks pending one e.stored (e.was ∷ []) [] e.edits)
    (λ b. other.no_standard))
    (has-key f e.was e.was refl refl) (has-none (key_of f e.was.kind e.was.name)) (go-costs f n old new one e.stored e.was e.edits other)

module _ (f n : ℕ) (lags : Key → Bool) (old new : VolumeView) (marks : Marks) (stored : List ℕ) (was now : Attribute)
    (block : RewritesRecord old new n stored was now) (pending : IsPending f lags old marks) (one : MayEditIn old f n) where
  step-put : IsSome (value_of was.body) → IsSome (value_of now.body) → was.kind ≢ ATTRIBUTE_LIST → now.kind ≡ was.kind
      → now.name ≡ was.name → IsRightRecord n (record_of n (opened_of stored))
      → Stepped f (either (same_key (key_of f was.kind was.name)) lags) (same_key (key_of f was.kind was.name)) nothing old new marks marks
  step-put was_is now_is no_list kind name right =
      step f n lags old new marks pending one stored (was ∷ []) (now ∷ []) block was.kind was.name nothing (one-value was was_is)
      (one-value now now_is) right (has-key f was was refl refl) (has-key f was now kind name)
      (put-costs f n old new one stored was now block no_list kind name was_is now_is)

  pub step-replaced : MayReplace old n was now
      → Stepped f (either (same_key (key_of f was.kind was.name)) lags) (same_key (key_of f was.kind was.name)) nothing old new marks marks
  step-replaced may = step-put may.was_value may.value may.no_list may.kind may.name (replace-right n old new stored was now block
      (was-right f n lags old new marks pending one stored (was ∷ []) (now ∷ []) block) may)

pub step-resized : (f n i len : ℕ) (lags : Key → Bool) (old new : VolumeView) (marks : Marks) → (e : ResizesAttribute old new n i len)
    → IsPending f lags old marks → MayEditIn old f n → MayResize e.was len
    → Stepped f (either (same_key (key_of f e.was.kind e.was.name)) lags) (same_key (key_of f e.was.kind e.was.name)) nothing old new marks
    marks
step-resized f n i len lags old new marks e pending one may =
    step-put f n lags old new marks e.stored e.was e.now e.edits pending one may.value
    (value-mapped e.was.body e.now.body (with_length len) e.value may.value) may.no_list e.kind e.name
    (right-resize old new n i len e (was-right f n lags old new marks pending one e.stored (e.was ∷ []) (e.now ∷ []) e.edits) may.no_name
    (λ b. may.standard))
