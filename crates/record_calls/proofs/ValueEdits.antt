-- AN EDIT OF A VALUE in one record of a file: that it is one of its attribute, and what it costs.
use Rattle.std.proofs.Common.{◌≡◌, ◌≢◌, ◌≤◌, ◌/◌, ◌%◌, ◌^◌, ℕ, false, List, [], ◌∷◌, length}
use Rattle.std.proofs.Common.{sym, ap, subst, arith}
use Rattle.std.specs.Prelude.{All, IfSome, IsSome, sum_by}
use Rattle.std.proofs.lemmas.List.Elements.{All-contains}
use Rattle.ntfs_def.specs.Attribute.{Attribute, Body, NonResident, Resident, attribute_at, value_of}
use Rattle.ntfs_def.specs.Fixup.{opened_of}
use Rattle.ntfs_def.specs.declared.kinds.TheConstants.{ATTRIBUTE_LIST}
use Rattle.ntfs_def.specs.declared.records.TheConstants.{MFT}
use Rattle.list_laws.proofs.MemberLaws.{All-from_Contains, Contains-from_map, Contains-only}
use Rattle.list_laws.proofs.PieceLaws.{All-one}
use Rattle.volume_def.specs.AttributesClause.{IsRightRecord}
use Rattle.volume_def.specs.Files.{Part, content_extent, content_of, content_value, part_of, record_of, record_on, records_of}
use Rattle.volume_def.specs.LimitsClause.{IsInLimits}
use Rattle.volume_def.specs.View.{VolumeView}
use Rattle.volume_edits.specs.Rewritten.{EditsBlock, RewritesRecord}
use Rattle.edit_def.specs.Account.{Wants, nothing}
use Rattle.edit_def.specs.Kept.{Key, key_of}
use Rattle.edit_def.specs.Purses.{Costs, is_emptied, part_size, run_size}
use Rattle.file_edits.specs.Between.{MayBeEdited}
use Rattle.file_edits.specs.RecordEdit.{AllHave, HasKey, parts_made}
use Rattle.file_edits.proofs.BlockEdits.{apart-from, edit-of}
use Rattle.file_edits.proofs.CostLaws.{costs-add, costs-drop, costs-put}
use Rattle.file_record.specs.Attributes.{InsertsAttribute}
use Rattle.record_calls.specs.Calls.{IsOtherValue, MayCome, MayEditIn, MayReplace}
use Rattle.record_calls.specs.Edits.{IsRightEdit, record_there}
use Rattle.record_calls.proofs.RightRecords.{right-come, right-put}
use Rattle.record_calls.proofs.Values.{AreValues, body-none, body-value}

-- values are in limits, and own no clusters
value-limits : (f n : ℕ) (attribute : Attribute) → IsSome (value_of attribute.body) → IsInLimits f (part_of n attribute)
value-limits f n attribute is = λ stream good. by attribute.body is
  where
    by : (body : Body) → IsSome (value_of body)
        → IfSome (content_extent (content_of body)) (λ extent. extent.sizes.first ≡ 0 → extent.sizes.real ≤ 2 ^ 40)
    by (Resident value) s = tt
    by (NonResident extent text) s = cc

values-limits : (f n : ℕ) (list : List Attribute) → AreValues list → All (IsInLimits f) (parts_made n list)
values-limits f n list values = All-from_Contains (IsInLimits f) (parts_made n list) (λ part c.
    let from = Contains-from_map (part_of n) list part c in
    subst (IsInLimits f) from.2 (value-limits f n from.0 (All-contains (λ (a : Attribute). IsSome (value_of a.body)) list from.0 values
    from.1)))

pub value-size : (n : ℕ) (attribute : Attribute) → IsSome (value_of attribute.body) → part_size (part_of n attribute) ≡ 0
value-size n attribute is = ap (sum_by run_size) (body-none attribute.body is)

pub value-content : (n : ℕ) (attribute : Attribute) → IsSome (value_of attribute.body)
    → IsSome (content_value (part_of n attribute).content)
value-content n attribute is = subst IsSome (sym (body-value attribute.body)) is

-- keys
pub has-key : (f : ℕ) (a b : Attribute) → b.kind ≡ a.kind → b.name ≡ a.name → AllHave (key_of f a.kind a.name) (b ∷ [])
has-key f a b kind name = All-one (HasKey (key_of f a.kind a.name)) b (record { kind = kind; name = name })

pub has-none : (key : Key) → AllHave key []
has-none key k d lt = absurd (omega arith)

-- IT IS AN EDIT of its attribute
pub edit-right : (f n : ℕ) (old : VolumeView) → MayEditIn old f n → (stored : List ℕ) (was now : List Attribute) (kind : ℕ) (name : List ℕ)
    → AreValues now → AllHave (key_of f kind name) was → AllHave (key_of f kind name) now → IsRightRecord n (record_of n (opened_of stored))
    → IsRightEdit (key_of f kind name) old n stored was now
edit-right f n old one stored was now kind name values was_of now_of right = record {
  file = one.file;
  is_file = one.is_file;
  may = one.may;
  was_of = was_of;
  now_of = now_of;
  right = right;
  limits = values-limits f n now values;
}

not-table : (f : ℕ) → MayBeEdited f → f ≢ MFT
not-table f may = apart-from f MFT may (omega arith) (λ z. absurd (omega (arith, z)))

-- WHAT IT COSTS
pub come-costs : (f n : ℕ) (old new : VolumeView) → MayEditIn old f n → (stored : List ℕ) (a : Attribute)
    → EditsBlock old new n stored [] (a ∷ []) → IsOtherValue a → length a.name % 2 ≡ 0 → is_emptied (record_on old n) ≡ false
    → (wants : Wants) → 1 ≤ wants.parts f → length a.name / 2 ≤ wants.units f
    → Costs (records_of old) (records_of new) n f [] (part_of n a ∷ []) wants
come-costs f n old new one stored a block other even still wants parts units =
    let size = value-size n a other.value in
    costs-add (records_of old) (records_of new) n f (part_of n a) wants (edit-of old new n stored [] (a ∷ []) block) one.file
    (not-table f one.may) other.no_list even (omega (arith, size)) parts units still

pub go-costs : (f n : ℕ) (old new : VolumeView) → MayEditIn old f n → (stored : List ℕ) (a : Attribute)
    → EditsBlock old new n stored (a ∷ []) [] → IsOtherValue a → Costs (records_of old) (records_of new) n f (part_of n a ∷ []) [] nothing
go-costs f n old new one stored a block other =
    costs-drop (records_of old) (records_of new) n f (part_of n a ∷ []) nothing (edit-of old new n stored (a ∷ []) [] block)
    (not-table f one.may)
    (λ part c. subst (λ (p : Part). p.kind ≢ ATTRIBUTE_LIST) (Contains-only (part_of n a) part c) other.no_list)

pub put-costs : (f n : ℕ) (old new : VolumeView) → MayEditIn old f n → (stored : List ℕ) (a b : Attribute)
    → RewritesRecord old new n stored a b → a.kind ≢ ATTRIBUTE_LIST → b.kind ≡ a.kind → b.name ≡ a.name → IsSome (value_of a.body)
    → IsSome (value_of b.body) → Costs (records_of old) (records_of new) n f (part_of n a ∷ []) (part_of n b ∷ []) nothing
put-costs f n old new one stored a b block no_list kind name was now =
    let before = value-size n a was in
    let after = value-size n b now in
    costs-put (records_of old) (records_of new) n f (part_of n a) (part_of n b) nothing (edit-of old new n stored (a ∷ []) (b ∷ []) block)
    one.file (not-table f one.may) no_list kind name (omega (arith, before, after))

-- THE RECORD IS RIGHT
pub come-right : (n i : ℕ) (old new : VolumeView) (attr : List ℕ) → (e : InsertsAttribute old new n i attr)
    → IsRightRecord n (record_there old n) → MayCome old n i (attribute_at attr 0) → IsRightRecord n (record_of n (opened_of e.stored))
come-right n i old new attr e right may = right-come old new n i attr e right may.rises may.new_id may.part (λ b. may.other.no_standard)

pub replace-right : (n : ℕ) (old new : VolumeView) (stored : List ℕ) (was now : Attribute) → RewritesRecord old new n stored was now
    → IsRightRecord n (record_there old n) → MayReplace old n was now → IsRightRecord n (record_of n (opened_of stored))
replace-right n old new stored was now block right may =
    right-put old new n stored was now block right may.kind may.id may.part may.standard
