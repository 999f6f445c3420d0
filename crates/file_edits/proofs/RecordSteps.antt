-- A RECORD COMES TO A FILE: it is a step.
use Rattle.std.proofs.Common.{◌≡◌, ◌≢◌, ◌≤◌, ◌<◌, ◌==◌, ℕ, Bool, true, false, cond, List, [], ◌∷◌, length, map, filter, Option, Some}
use Rattle.std.proofs.Common.{None}
use Rattle.std.proofs.Common.{refl, sym, ap, subst, ◌∙◌, inl, inr, arith}
use mathlib.Core.Path.{fun_ext}
use Rattle.std.specs.List.{flat_map, range_with_len}
use Rattle.std.specs.Option.{option_map_or}
use Rattle.std.specs.Prelude.{All, IfSome, IsSomeAnd, IsTrue, count_by, is_none, is_some, option_map, slice_get, unwrap_or}
use Rattle.std.proofs.lemmas.Bool.{both_ways, cases_eq}
use Rattle.ntfs_def.specs.Attribute.{Attribute, attributes}
use Rattle.ntfs_def.specs.Fixup.{opened_of}
use Rattle.ntfs_def.specs.Record.{Reference, is_in_use}
use Rattle.ntfs_def.specs.declared.kinds.TheConstants.{FILE_NAME}
use Rattle.ntfs_def.specs.declared.records.TheConstants.{FIRST_ORDINARY}
use Rattle.list_laws.specs.SameItems.{SameItems}
use Rattle.list_laws.proofs.OptionLaws.{if-some, some_same}
use Rattle.list_laws.proofs.ReplacesLaws.{Replaces-count}
use Rattle.list_laws.proofs.SameItemsLaws.{SameItems-same}
use Rattle.volume_def.specs.AttributesClause.{IsRightRecord, MeetsAttributes}
use Rattle.volume_def.specs.Coverage.{has_cluster}
use Rattle.volume_def.specs.Edits.{ChangesAt}
use Rattle.volume_def.specs.ExtentsClause.{AreAttribute, MeetsExtents}
use Rattle.volume_def.specs.Files.{Part, Record, Records, file_of, is_base, is_of, joined_runs, part_of, parts, parts_like}
use Rattle.volume_def.specs.Files.{record_in, record_of, record_on, records_of}
use Rattle.volume_def.specs.LimitsClause.{IsInLimits, MeetsLimits}
use Rattle.volume_def.specs.ListsClause.{HasRightList, MeetsLists}
use Rattle.volume_def.specs.Members.{TakesEmpty}
use Rattle.volume_def.specs.OwnersClause.{all_runs, record_runs, times_owned}
use Rattle.volume_def.specs.Readable.{IsFile}
use Rattle.volume_def.specs.ReferencesClause.{NamesBase}
use Rattle.volume_def.specs.ShapeClause.{MeetsShape}
use Rattle.volume_def.specs.Table.{IsWellFormed, TableLayout, cluster_bytes}
use Rattle.volume_def.specs.View.{VolumeView}
use Rattle.volume_def.proofs.ExtentsClauseLaws.{MeetsExtents-taken}
use Rattle.volume_def.proofs.OtherListLaws.{HasRightList-taken}
use Rattle.volume_def.proofs.ReadableLaws.{of_base}
use Rattle.volume_def.proofs.RecordLaws.{parts-taken}
use Rattle.volume_def.proofs.ViewLaws.{ChangesAt-block, record_at-written}
use Rattle.edit_def.specs.Edited.{is_table_key}
use Rattle.edit_def.specs.Forms.{attributes_on, begins, form_of, forms_of}
use Rattle.edit_def.specs.Kept.{Key}
use Rattle.edit_def.specs.Marks.{Marks}
use Rattle.edit_def.specs.Names.{HasRightBases}
use Rattle.record_edits.specs.Pending.{IsPending, Stepped}
use Rattle.record_edits.proofs.ClauseEdits.{base-there}
use Rattle.record_edits.proofs.OwnerEdits.{all_runs-Replaces}
use Rattle.record_edits.proofs.SystemKept.{KeepsSystem}
use Rattle.record_edits.proofs.WholeLaws.{of-file, whole-still}
use Rattle.file_edits.specs.Steps.{TakesExtension, one_record}
use Rattle.file_edits.proofs.Frame.{lists-kept, none, clusters-stay, state, step}
use Rattle.file_edits.proofs.MoveKeeps.{KeepsBut-parts}
use Rattle.file_edits.proofs.RoomSteps.{Keeps-taken}

-- A RECORD WITHOUT PARTS owns nothing.
pub times-empty : (old new : Records) (n c : ℕ) → ChangesAt old new n → n < old.count → record_runs (old.record_at n) ≡ []
    → record_runs (new.record_at n) ≡ []
    → times_owned new c ≡ times_owned old c
unfolding times_owned
times-empty old new n c changes inside was now =
    let r = Replaces-count (has_cluster c) (all_runs old) (all_runs new) (record_runs (old.record_at n)) (record_runs (new.record_at n))
    (all_runs-Replaces old new n changes inside) in
    let a = ap (count_by (has_cluster c)) was in
    let b = ap (count_by (has_cluster c)) now in
    omega (arith, r, a, b)

pub runs-empty : (o : Option Record) (r : Record) → o ≡ Some r → r.parts ≡ [] → record_runs o ≡ []
runs-empty o r e empty = ap record_runs e ∙ ap joined_runs empty

-- It is no base record.
pub not-base : (o : Option Record) (r : Record) → o ≡ Some r → is_base r ≡ false → IsSomeAnd o (λ r. IsTrue (is_base r)) → ⊥
not-base o r e b h = both_ways (is_base r) b (subst (λ o. IsSomeAnd o (λ r. IsTrue (is_base r))) e h)

-- One that is no base record, and has no attribute, is right where it is an ordinary one.
right-empty : (n : ℕ) (r : Record) → FIRST_ORDINARY ≤ n → is_base r ≡ false → r.parts ≡ [] → IsRightRecord n r
right-empty n r ordinary extension empty = by r.parts empty
  where
    by : (ps : List Part) → ps ≡ [] → IsRightRecord n (record { header = r.header; parts = ps })
    by [] e = record {
      system = λ low. absurd (omega (arith, low, ordinary));
      rising = tt;
      ids = λ id. omega arith;
      one_standard = λ base. absurd (both_ways (is_base r) extension base);
      standard = λ base. absurd (both_ways (is_base r) extension base);
      each = λ j d l. absurd (omega (arith, l));
    }
    by (p ∷ ps) e = let never = ap length e in absurd (omega (arith, never))

-- HEADERS: a record without attributes has none.
pub no-attributes : (b : Bool) (xs : List Attribute) → xs ≡ [] → cond b xs [] ≡ []
no-attributes true xs e = e
no-attributes false xs e = refl

pub forms-same : (old new : VolumeView) (g : ℕ) → new.layout ≡ old.layout → ((m : ℕ) → attributes_on new g m ≡ attributes_on old g m)
    → SameItems (forms_of old g) (forms_of new g)
forms-same old new g layout same = SameItems-same _ _ (sym (
    ap (λ h. map form_of (filter begins (flat_map h (range_with_len 0 new.layout.count)))) (fun_ext same)
    ∙ ap (λ (l : TableLayout). map form_of (filter begins (flat_map (attributes_on old g) (range_with_len 0 l.count)))) layout))

-- IT COMES.
module _ (f : ℕ) (old new : VolumeView) (before after : Marks) (t : TakesExtension f old new before after) where
  abbrev pub now_record : Record
  now_record = record_of t.n (opened_of t.stored)

  pub now-at : record_on new t.n ≡ Some now_record
  unfolding record_in
  now-at = record_at-written old new t.n t.stored t.replaces t.told t.inside ∙ ap (λ b. cond b (Some now_record) None) t.used

  pub no-parts : now_record.parts ≡ []
  no-parts = ap (map (part_of t.n)) t.empty

  abbrev pub takes : TakesEmpty (records_of old) (records_of new) t.n
  takes = record {
    changes = ChangesAt-block old new t.n t.stored t.replaces;
    inside = t.inside;
    was_at = t.free;
    now_record = now_record;
    now_at = now-at;
    empty = no-parts;
  }

  layout : new.layout ≡ old.layout
  layout = t.replaces.layout

  pub other-at : (m : ℕ) → m ≢ t.n → record_on new m ≡ record_on old m
  other-at = takes.changes.others

  file : file_of t.n now_record ≡ f
  file = ap (λ (b : Option Reference). unwrap_or (option_map (λ (r : Reference). r.number) b) t.n) t.base_is ∙ t.file

  pub extension : is_base now_record ≡ false
  extension = ap (λ (b : Option Reference). is_none b) t.base_is

  -- a base record stood there
  base-stood : (m : ℕ) (r : Record) → record_on new m ≡ Some r → IsTrue (is_base r) → (m ≢ t.n) × (record_on old m ≡ Some r)
  base-stood m r at base = (ne, sym (other-at m ne) ∙ at)
    where
      ne : m ≢ t.n
      ne same = not-base (record_on new t.n) now_record now-at extension
          (subst (λ k. IsSomeAnd (record_on new k) (λ r. IsTrue (is_base r))) same (base-there (record_on new m) r at base))

  was-base : (m : ℕ) (r : Record) → record_on new m ≡ Some r → IsTrue (is_base r) → IsSomeAnd (record_on old m) (λ r. IsTrue (is_base r))
  was-base m r at base = base-there (record_on old m) r (base-stood m r at base).1 base

  shaped : ((m : ℕ) → MeetsShape old m) → (m : ℕ) → MeetsShape new m
  shaped shape m = elim (cases_eq m t.n) [
    | inl same ↦ λ inside used. subst IsWellFormed (sym (ap new.block same ∙ t.replaces.block t.told)) t.well
    | inr ne ↦ λ inside used.
        subst IsWellFormed (sym (t.replaces.blocks m ne))
        (shape m (subst (λ (l : TableLayout). m < l.count) layout inside) (subst (λ b. IsTrue (is_in_use b)) (t.replaces.blocks m ne) used))
  ]

  attributes-right : ((m : ℕ) → MeetsAttributes (records_of old) m) → (m : ℕ) → MeetsAttributes (records_of new) m
  attributes-right meets m = elim (cases_eq m t.n) [
    | inl same ↦ subst (MeetsAttributes (records_of new)) (sym same)
        (subst (λ o. IfSome o (IsRightRecord t.n)) (sym now-at) (right-empty t.n now_record t.ordinary extension no-parts))
    | inr ne ↦ subst (λ o. IfSome o (IsRightRecord m)) (sym (other-at m ne)) (meets m)
  ]

  extents : (m : ℕ) → MeetsExtents (records_of old) (cluster_bytes old.layout) m
      → MeetsExtents (records_of new) (cluster_bytes new.layout) m
  extents m meets = elim (cases_eq m t.n) [
    | inl same ↦ if-some (record_on new m) (λ r. IsTrue (is_base r) → All (λ part. part.kind ≢ FILE_NAME
        → AreAttribute (cluster_bytes new.layout) m (parts_like part (parts (records_of new) m))) (parts (records_of new) m))
        (λ r at base. absurd ((base-stood m r at base).0 same))
    | inr ne ↦ subst (λ (l : TableLayout). MeetsExtents (records_of new) (cluster_bytes l) m) (sym layout)
        (MeetsExtents-taken (records_of old) (records_of new) (cluster_bytes old.layout) t.n m takes ne meets)
  ]

  limits : ((m : ℕ) → MeetsLimits (records_of old) m) → (m : ℕ) → MeetsLimits (records_of new) m
  limits meets m = if-some (record_on new m) (λ r. IsTrue (is_base r) → All (IsInLimits m) (parts (records_of new) m)) (λ r at base.
      subst (All (IsInLimits m)) (sym (parts-taken (records_of old) (records_of new) t.n m takes))
      (of_base (All (IsInLimits m) (parts (records_of old) m)) (record_on old m) (was-base m r at base) (meets m)))

  names-still : (reference : Reference) → NamesBase (records_of old) reference → NamesBase (records_of new) reference
  names-still reference h = elim (cases_eq reference.number t.n) [
    | inl same ↦ absurd (subst (λ o. IsSomeAnd o (λ r. IsTrue (is_base r) × (r.header.sequence ≡ reference.sequence))) (ap
        (record_on old) same ∙ t.free) h)
    | inr ne ↦ subst (λ o. IsSomeAnd o (λ r. IsTrue (is_base r) × (r.header.sequence ≡ reference.sequence))) (sym
        (other-at reference.number ne)) h
  ]

  bases : HasRightBases (records_of old) → HasRightBases (records_of new)
  bases was m = elim (cases_eq m t.n) [
    | inl same ↦ subst (λ o. IfSome o (λ r. IfSome r.header.base (NamesBase (records_of new)))) (sym (ap (record_on new) same ∙ now-at))
        (subst (λ (b : Option Reference). IfSome b (NamesBase (records_of new))) (sym t.base_is) (names-still t.base t.names))
    | inr ne ↦ subst (λ o. IfSome o (λ r. IfSome r.header.base (NamesBase (records_of new)))) (sym (other-at m ne)) (of
        (record_on old m) (was m))
  ]
    where
      each : (b : Option Reference) → IfSome b (NamesBase (records_of old)) → IfSome b (NamesBase (records_of new))
      each None h = h
      each (Some reference) h = names-still reference h

      of : (o : Option Record) → IfSome o (λ r. IfSome r.header.base (NamesBase (records_of old)))
          → IfSome o (λ r. IfSome r.header.base (NamesBase (records_of new)))
      of None h = h
      of (Some r) h = each r.header.base h

  forms : (g : ℕ) → SameItems (forms_of old g) (forms_of new g)
  forms g = forms-same old new g layout (λ m. elim (cases_eq m t.n) [
    | inr ne ↦ ap (λ o. option_map_or (λ r. cond (file_of m r == g) (attributes (opened_of (new.block m))) []) o []) (other-at m ne)
        ∙ ap (λ b. option_map_or (λ r. cond (file_of m r == g) (attributes (opened_of b)) []) (record_on old m) []) (t.replaces.blocks m ne)
    | inl same ↦ ap (attributes_on new g) same
        ∙ ap (λ o. option_map_or (λ r. cond (file_of t.n r == g) (attributes (opened_of (new.block t.n))) []) o []) now-at
        ∙ no-attributes (file_of t.n now_record == g) (attributes (opened_of (new.block t.n)))
        (ap (λ b. attributes (opened_of b)) (t.replaces.block t.told) ∙ t.empty)
        ∙ sym (ap (λ o. option_map_or (λ r. cond (file_of t.n r == g) (attributes (opened_of (old.block t.n))) []) o []) t.free)
        ∙ sym (ap (attributes_on old g) same)
  ])

  pub system : KeepsSystem old new
  system = record {
    layout = layout;
    blocks = λ m low. t.replaces.blocks m (λ same. absurd (let high = t.ordinary in omega (arith, low, same, high)));
    copies = λ m low. t.replaces.copies m low (λ same. absurd (let high = t.ordinary in omega (arith, low, same, high)));
    parts_are = λ m low other. parts-taken (records_of old) (records_of new) t.n m takes;
  }

  used-rows : (marks : (m : ℕ) → FIRST_ORDINARY ≤ m → m < old.layout.count → slice_get before.records m ≡ Some (is_some (record_on old m)))
      → (m : ℕ) → FIRST_ORDINARY ≤ m → m < new.layout.count → slice_get after.records m ≡ Some (is_some (record_on new m))
  used-rows marks m low lt = elim (cases_eq m t.n) [
    | inl same ↦ ap (slice_get after.records) same ∙ t.row.row ∙ ap (λ o. Some (is_some o)) (sym now-at)
        ∙ ap (λ k. Some (is_some (record_on new k))) (sym same)
    | inr ne ↦ t.row.others m ne ∙ marks m low (subst (λ (l : TableLayout). m < l.count) layout lt)
        ∙ ap (λ o. Some (is_some o)) (sym (other-at m ne))
  ]

  step-taken : (lags : Key → Bool) → IsPending f lags old before → Stepped f lags none one_record old new before after
  step-taken lags was =
      step f lags old new before after system t.replaces.clusters was one_record t.replaces.told t.replaces.rest
      (KeepsBut-parts is_table_key old new (λ g. parts-taken (records_of old) (records_of new) t.n g takes)
      (clusters-stay f lags old new before after system t.replaces.clusters was))
      forms
      (Keeps-taken old new t.n (ap (λ (l : TableLayout). l.clusters) layout) (ap cluster_bytes layout) takes)
      (state f lags old new before after system t.replaces.clusters was (shaped was.shape) (attributes-right was.attributes) lists
      (λ m ne. extents m (was.extents m ne))
      (λ is key own free. whole-still old new key (ap (filter (is_of key.kind key.name)) (parts-taken (records_of old) (records_of new) t.n
      key.file takes)) layout (was.streams (of-file new f (IsFile old f) (was-base f) is) key own free))
      (λ c. times-empty (records_of old) (records_of new) t.n c takes.changes t.inside (ap record_runs t.free)
      (runs-empty (record_on new t.n) now_record now-at no-parts))
      (limits was.limits) (bases was.bases) t.row.clusters t.row.count (used-rows was.right.used))
      (λ m low free. other-at m (λ same. absurd (let high = t.ordinary in omega (arith, low, same, high))) ∙ free)
      (λ m r at other. elim (cases_eq m t.n) [
        | inr ne ↦ sym (other-at m ne) ∙ at
        | inl same ↦ absurd (other (own m r same at))
      ])
    where
      own : (m : ℕ) (r : Record) → m ≡ t.n → record_on new m ≡ Some r → file_of m r ≡ f
      own m r same at =
          let is : now_record ≡ r = some_same (sym now-at ∙ sym (ap (record_on new) same) ∙ at) in
          ap (λ k. file_of k r) same ∙ sym (ap (file_of t.n) is) ∙ file

      lists : (m : ℕ) → m ≢ f → MeetsLists new m
      lists m ne = if-some (record_on new m) (λ r. IsTrue (is_base r) → HasRightList new m (parts (records_of new) m)) (λ r at base.
          HasRightList-taken old new t.n m takes (λ z. ne (sym z ∙ file)) layout
          (lists-kept f lags old new before after system t.replaces.clusters was m)
          (of_base (HasRightList old m (parts (records_of old) m)) (record_on old m) (was-base m r at base) (was.lists m ne)))

pub stepped-taken : (f : ℕ) (lags : Key → Bool) (old new : VolumeView) (before after : Marks) → TakesExtension f old new before after
    → IsPending f lags old before → Stepped f lags none one_record old new before after
stepped-taken f lags old new before after t = step-taken f old new before after t lags
