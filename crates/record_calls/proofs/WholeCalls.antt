-- WHOLE CALLS on the one record of a file: values that come, go, are replaced, or have another length; and a file that is made.
use Rattle.std.proofs.Common.{◌≡◌, ◌≢◌, ◌⊎◌, ◌≤◌, ◌/◌, ℕ, Bool, false, List, [], ◌∷◌, length, filter, Some}
use Rattle.std.proofs.Common.{refl, sym, ap, subst, inl, inr, ◌∙◌, arith}
use Rattle.std.specs.Prelude.{IfSome, IsSome, IsSomeAnd, IsTrue, count_by, is_none, nat_lt}
use Rattle.std.specs.List.{Contains}
use Rattle.std.proofs.lemmas.Bool.{and_left, false_from_ne_true}
use Rattle.ntfs_def.specs.Attribute.{Attribute, attribute_at, attributes, value_of}
use Rattle.attr_view.specs.Values.{with_length}
use Rattle.ntfs_def.specs.Fixup.{opened_of}
use Rattle.ntfs_def.specs.declared.kinds.TheConstants.{ATTRIBUTE_LIST, FILE_NAME}
use Rattle.list_laws.proofs.FindLaws.{count-some}
use Rattle.list_laws.proofs.MemberLaws.{Contains-head, Contains-map}
use Rattle.list_laws.proofs.ReplacesLaws.{Replaces-stood}
use Rattle.volume_def.specs.AttributesClause.{IsRightRecord, is_standard}
use Rattle.volume_def.specs.ExtentsClause.{AreAttribute}
use Rattle.volume_def.specs.Files.{Part, file_of, is_base, part_of, parts, parts_at, record_of, record_on, records_of}
use Rattle.volume_def.specs.ListsClause.{is_list}
use Rattle.volume_def.specs.Readable.{IsFile}
use Rattle.volume_def.specs.Table.{cluster_bytes}
use Rattle.volume_def.specs.View.{VolumeView}
use Rattle.volume_def.proofs.PartLaws.{Contains-HoldsPart}
use Rattle.volume_def.proofs.RecordLaws.{parts-own_at}
use Rattle.volume_edits.specs.Rewritten.{EditsBlock, RewritesRecord}
use Rattle.file_record.specs.MountedType.{Mounted}
use Rattle.file_record.specs.Changes.{with_record_taken}
use Rattle.file_record.specs.FreeRecords.{IsOrdinaryFree}
use Rattle.edit_def.specs.Account.{Wants, nothing}
use Rattle.edit_def.specs.Edited.{Edited}
use Rattle.edit_def.specs.Kept.{Key, key_of, same_key}
use Rattle.edit_def.specs.Marks.{Marks}
use Rattle.edit_def.specs.Purses.{Costs, is_emptied}
use Rattle.file_edits.specs.Between.{IsReady}
use Rattle.file_edits.specs.RecordEdit.{AllHave, EditsPart, EditsRecord, parts_made}
use Rattle.file_edits.proofs.BlockEdits.{base-file, edit-of, was-at}
use Rattle.file_edits.proofs.FileEdits.{list-missing}
use Rattle.file_edits.proofs.PartEdits.{filter-nil}
use Rattle.file_edits.proofs.RecordEdits as call
use Rattle.file_edits.proofs.WholeEdits as whole
use Rattle.file_edits.specs.Files.{MakesFile, is_file_key}
use Rattle.file_edits.proofs.FileComes as file
use Rattle.file_record.specs.Attributes.{InsertsAttribute, RemovesAttribute, ResizesAttribute}
use Rattle.file_record.specs.Extensions.{CreatesBase}
use Rattle.record_calls.specs.Calls.{IsInOneRecord, IsNewName, IsOtherValue, MayCome, MayEditIn, MayReplace, MayResize}
use Rattle.record_calls.specs.Edits.{record_there}
use Rattle.record_calls.specs.Marks.{marks_of}
use Rattle.record_calls.proofs.EditCalls.{edit-values}
use Rattle.record_calls.proofs.RecordCalls.{costs, made}
use Rattle.record_calls.proofs.RightRecords.{right-go, right-resize}
use Rattle.record_calls.proofs.Rows.{free-inside, free-unused}
use Rattle.record_calls.proofs.ValueAlone.{value-alone}
use Rattle.record_calls.proofs.ValueEdits.{come-costs, come-right, edit-right, go-costs, has-key, has-none, put-costs, replace-right}
use Rattle.record_calls.proofs.ValueEdits.{value-content}
use Rattle.record_calls.proofs.Values.{AreValues, no-value, one-value, value-mapped}

module _ (f : ℕ) (old new : VolumeView) (marks : Marks) (ready : IsReady old marks) (one : IsInOneRecord old f) (stored : List ℕ)
    (was now : List Attribute) (block : EditsBlock old new f stored was now) where
  there : record_on old f ≡ Some (record_there old f)
  there = was-at old new f stored was now block

  pub is-file : IsFile old f
  is-file = subst (λ o. IsSomeAnd o (λ r. IsTrue (is_base r))) (sym there) one.base

  pub own-file : file_of f (record_there old f) ≡ f
  own-file = base-file f (record_there old f) one.base

  -- the record was right
  pub was-right : IsRightRecord f (record_there old f)
  was-right = subst (λ o. IfSome o (IsRightRecord f)) there (ready.editable.readable.attributes f)

  pub may-edit : MayEditIn old f f
  may-edit = record { file = own-file; is_file = is-file; may = one.may }

  -- what goes is one of the file's parts
  pub stood : (attribute : Attribute) → Contains was attribute → Contains (parts (records_of old) f) (part_of f attribute)
  stood attribute c = Replaces-stood _ _ _ _ (part_of f attribute)
      (parts-own_at (records_of old) (records_of new) f f (parts_made f was) (parts_made f now)
      (edit-of old new f stored was now block) own-file) (Contains-map (part_of f) was attribute c)

  -- the base record has no list, so it was not emptied
  pub not-emptied : is_emptied (record_on old f) ≡ false
  not-emptied =
      let r = record_there old f in
      let none : filter is_list r.parts ≡ [] = filter-nil is_list r.parts (λ part c. false_from_ne_true (is_list part) (λ is.
      let held = Contains-HoldsPart (records_of old) f f part (record {
        inside = block.inside;
        record_there = r;
        held = there;
        file = own-file;
        among = c;
      }) in
      let some = count-some is_list (parts (records_of old) f) part held is in
      absurd (omega (arith, some, one.no_list)))) in
      ap is_emptied there ∙ and_left (nat_lt 0 (length (filter is_list r.parts))) _ (ap (λ (xs : List Part). nat_lt 0 (length xs)) none)

  module _ (kind : ℕ) (name : List ℕ) (values_was : AreValues was) (values_now : AreValues now)
      (right : IsRightRecord f (record_of f (opened_of stored))) (was_of : AllHave (key_of f kind name) was)
      (now_of : AllHave (key_of f kind name) now) (no_list : kind ≢ ATTRIBUTE_LIST)
      (alone : kind ≢ FILE_NAME → parts_at old f kind name ≡ parts_made f was)
      (single : (parts_made f now ≡ []) ⊎ ((size : ℕ) → AreAttribute size f (parts_made f now))) where
    abbrev key : Key
    key = key_of f kind name

    abbrev part : EditsPart key old new marks marks
    part = (edit-values key old new marks f stored was now block values_was values_now (edit-right f f old may-edit stored was now kind name
        values_now was_of now_of right)).part

    still-base : IsTrue (is_base (record_of f (opened_of stored)))
    still-base = ap is_none block.header.base ∙ one.base

    held : attributes (opened_of stored) ≢ []
    held none =
        let count = right.one_standard still-base in
        let zero_of : count_by is_standard (parts_made f (attributes (opened_of stored))) ≡ 0 =
        ap (λ xs. count_by is_standard (parts_made f xs)) none in
        absurd (omega (arith, count, zero_of))

    pub edits : (wants : Wants) → Costs (records_of old) (records_of new) f f (parts_made f was) (parts_made f now) wants
        → EditsRecord key wants old new marks marks
    edits wants costs = record {
      part = part;
      held = held;
      stream = λ other.
          let at = whole.whole old new f stored was now block key own-file was_of now_of (alone other) in
          elim single [
            | inl none ↦ inl (at ∙ none)
            | inr are ↦ inr (subst (AreAttribute (cluster_bytes new.layout) f) (sym at) (are (cluster_bytes new.layout)))
          ];
      list = list-missing key old new marks marks part ready no_list one.no_list;
      costs = costs;
    }

-- A VALUE COMES
comes : (f i : ℕ) (old new : VolumeView) (marks : Marks) (attr : List ℕ) (wants : Wants) → InsertsAttribute old new f i attr
    → IsReady old marks → IsInOneRecord old f → MayCome old f i (attribute_at attr 0) → IsNewName old f (attribute_at attr 0)
    → 1 ≤ wants.parts f → length (attribute_at attr 0).name / 2 ≤ wants.units f
    → EditsRecord (key_of f (attribute_at attr 0).kind (attribute_at attr 0).name) wants old new marks marks
comes f i old new marks attr wants e ready one may new_name parts units =
    let a : Attribute = attribute_at attr 0 in
    edits f old new marks ready one e.stored [] (a ∷ []) e.edits a.kind a.name no-value (one-value a may.other.value)
    (come-right f i old new attr e (was-right f old new marks ready one e.stored [] (a ∷ []) e.edits) may)
    (has-none (key_of f a.kind a.name)) (has-key f a a refl refl) may.other.no_list new_name
    (inr (λ size. whole.one-value size f (part_of f a) (value-content f a may.other.value))) wants
    (come-costs f f old new (may-edit f old new marks ready one e.stored [] (a ∷ []) e.edits) e.stored a e.edits may.other may.units
    (not-emptied f old new marks ready one e.stored [] (a ∷ []) e.edits) wants parts units)

pub edited-comes : (f i : ℕ) (old new : VolumeView) (marks : Marks) (attr : List ℕ) (wants : Wants) → InsertsAttribute old new f i attr
    → IsReady old marks → IsInOneRecord old f → MayCome old f i (attribute_at attr 0) → IsNewName old f (attribute_at attr 0)
    → 1 ≤ wants.parts f → length (attribute_at attr 0).name / 2 ≤ wants.units f
    → Edited (same_key (key_of f (attribute_at attr 0).kind (attribute_at attr 0).name)) wants old new marks marks
edited-comes f i old new marks attr wants e ready one may new_name parts units =
    call.edited (key_of f (attribute_at attr 0).kind (attribute_at attr 0).name) wants old new marks marks
    (comes f i old new marks attr wants e ready one may new_name parts units) ready

pub ready-comes : (f i : ℕ) (old new : VolumeView) (marks : Marks) (attr : List ℕ) → InsertsAttribute old new f i attr
    → IsReady old marks → IsInOneRecord old f → MayCome old f i (attribute_at attr 0) → IsNewName old f (attribute_at attr 0)
    → IsReady new marks
ready-comes f i old new marks attr e ready one may new_name =
    let enough : Wants = record {
      clusters = 0;
      parts = λ g. 1;
      units = λ g. length (attribute_at attr 0).name / 2;
      goes = λ g. false;
      records = 0;
    } in
    call.ready (key_of f (attribute_at attr 0).kind (attribute_at attr 0).name) enough old new marks marks
    (comes f i old new marks attr enough e ready one may new_name (omega arith) (omega arith)) ready

-- the attribute that goes, or is replaced, is alone
alone-in : (f : ℕ) (old new : VolumeView) (marks : Marks) → IsReady old marks → IsInOneRecord old f → (stored : List ℕ) (was : Attribute)
    (now : List Attribute) → EditsBlock old new f stored (was ∷ []) now → IsSome (value_of was.body) → was.kind ≢ FILE_NAME
    → parts_at old f was.kind was.name ≡ parts_made f (was ∷ [])
alone-in f old new marks ready one stored was now block is other =
    value-alone old f (part_of f was) (ready.editable.readable.extents f) (is-file f old new marks ready one stored (was ∷ []) now block)
    (stood f old new marks ready one stored (was ∷ []) now block was (Contains-head was [])) (value-content f was is) other

-- A VALUE GOES
goes : (f i : ℕ) (old new : VolumeView) (marks : Marks) → (e : RemovesAttribute old new f i) → IsReady old marks → IsInOneRecord old f
    → IsOtherValue e.was → EditsRecord (key_of f e.was.kind e.was.name) nothing old new marks marks
goes f i old new marks e ready one other =
    edits f old new marks ready one e.stored (e.was ∷ []) [] e.edits e.was.kind e.was.name (one-value e.was other.value) no-value
    (right-go old new f e.stored e.was e.edits (was-right f old new marks ready one e.stored (e.was ∷ []) [] e.edits)
    (λ b. other.no_standard))
    (has-key f e.was e.was refl refl) (has-none (key_of f e.was.kind e.was.name)) other.no_list
    (alone-in f old new marks ready one e.stored e.was [] e.edits other.value) (inl refl) nothing
    (go-costs f f old new (may-edit f old new marks ready one e.stored (e.was ∷ []) [] e.edits) e.stored e.was e.edits other)

pub edited-goes : (f i : ℕ) (old new : VolumeView) (marks : Marks) → (e : RemovesAttribute old new f i) → IsReady old marks
    → IsInOneRecord old f → IsOtherValue e.was → Edited (same_key (key_of f e.was.kind e.was.name)) nothing old new marks marks
edited-goes f i old new marks e ready one other = call.edited (key_of f e.was.kind e.was.name) nothing old new marks marks
    (goes f i old new marks e ready one other) ready

pub ready-goes : (f i : ℕ) (old new : VolumeView) (marks : Marks) → (e : RemovesAttribute old new f i) → IsReady old marks
    → IsInOneRecord old f → IsOtherValue e.was → IsReady new marks
ready-goes f i old new marks e ready one other = call.ready (key_of f e.was.kind e.was.name) nothing old new marks marks
    (goes f i old new marks e ready one other) ready

-- A VALUE IN THE PLACE OF ANOTHER of its type and name
module _ (f : ℕ) (old new : VolumeView) (marks : Marks) (stored : List ℕ) (was now : Attribute)
    (block : RewritesRecord old new f stored was now) (ready : IsReady old marks) (one : IsInOneRecord old f) where
  put : IsSome (value_of was.body) → IsSome (value_of now.body) → was.kind ≢ ATTRIBUTE_LIST → now.kind ≡ was.kind → now.name ≡ was.name
      → IsRightRecord f (record_of f (opened_of stored)) → EditsRecord (key_of f was.kind was.name) nothing old new marks marks
  put was_is now_is no_list kind name right =
      edits f old new marks ready one stored (was ∷ []) (now ∷ []) block was.kind was.name (one-value was was_is)
      (one-value now now_is) right (has-key f was was refl refl) (has-key f was now kind name) no_list
      (alone-in f old new marks ready one stored was (now ∷ []) block was_is)
      (inr (λ size. whole.one-value size f (part_of f now) (value-content f now now_is))) nothing
      (put-costs f f old new (may-edit f old new marks ready one stored (was ∷ []) (now ∷ []) block) stored was now block no_list kind name
      was_is now_is)

  replaced : MayReplace old f was now → EditsRecord (key_of f was.kind was.name) nothing old new marks marks
  replaced may = put may.was_value may.value may.no_list may.kind may.name
      (replace-right f old new stored was now block (was-right f old new marks ready one stored (was ∷ []) (now ∷ []) block) may)

  pub edited-replaced : MayReplace old f was now → Edited (same_key (key_of f was.kind was.name)) nothing old new marks marks
  edited-replaced may = call.edited (key_of f was.kind was.name) nothing old new marks marks (replaced may) ready

  pub ready-replaced : MayReplace old f was now → IsReady new marks
  ready-replaced may = call.ready (key_of f was.kind was.name) nothing old new marks marks (replaced may) ready

-- A VALUE HAS ANOTHER LENGTH
module _ (f i len : ℕ) (old new : VolumeView) (marks : Marks) (e : ResizesAttribute old new f i len) (ready : IsReady old marks)
    (one : IsInOneRecord old f) (may : MayResize e.was len) where
  resized : EditsRecord (key_of f e.was.kind e.was.name) nothing old new marks marks
  resized = put f old new marks e.stored e.was e.now e.edits ready one may.value
      (value-mapped e.was.body e.now.body (with_length len) e.value may.value) may.no_list e.kind e.name
      (right-resize old new f i len e (was-right f old new marks ready one e.stored (e.was ∷ []) (e.now ∷ []) e.edits) may.no_name
      (λ b. may.standard))

  pub edited-resized : Edited (same_key (key_of f e.was.kind e.was.name)) nothing old new marks marks
  edited-resized = call.edited (key_of f e.was.kind e.was.name) nothing old new marks marks resized ready

  pub ready-resized : IsReady new marks
  ready-resized = call.ready (key_of f e.was.kind e.was.name) nothing old new marks marks resized ready

-- A FILE IS MADE
module _ (old new : VolumeView) (was now : Mounted) (n : ℕ) (dir : Bool) (standard : List ℕ) where
  makes : IsTrue old.told → CreatesBase old new n dir standard → length standard ≡ 72 → now ≡ with_record_taken was n
      → IsOrdinaryFree was.records n → IsReady old (marks_of was) → MakesFile n old new (marks_of was) (marks_of now)
  makes told e long is free ready = made old new was now n dir standard told e long is free
      (free-inside old (marks_of was) n ready.editable.right free) (free-unused old (marks_of was) n ready.editable.right free)

  pub edited-new : (wants : Wants) → IsTrue old.told → CreatesBase old new n dir standard → length standard ≡ 72
      → now ≡ with_record_taken was n → IsOrdinaryFree was.records n → IsReady old (marks_of was) → 1 ≤ wants.parts n → 1 ≤ wants.records
      → Edited (is_file_key n) wants old new (marks_of was) (marks_of now)
  edited-new wants told e long is free ready parts record_one =
      let t = makes told e long is free ready in
      file.edited-comes n old new (marks_of was) (marks_of now) t ready wants
      (costs old new (marks_of was) (marks_of now) n dir standard wants e t parts record_one)

  pub ready-new : IsTrue old.told → CreatesBase old new n dir standard → length standard ≡ 72 → now ≡ with_record_taken was n
      → IsOrdinaryFree was.records n → IsReady old (marks_of was) → IsReady new (marks_of now)
  ready-new told e long is free ready =
      file.ready-comes n old new (marks_of was) (marks_of now) (makes told e long is free ready) ready
