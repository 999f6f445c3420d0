-- A RECORD GOES from a file: it is a step.
use Rattle.std.proofs.Common.{◌≡◌, ◌≢◌, ◌≤◌, ◌<◌, ◌==◌, ℕ, Bool, cond, [], filter, map, Option, Some}
use Rattle.std.proofs.Common.{None}
use Rattle.std.proofs.Common.{sym, ap, subst, ◌∙◌, inl, inr, arith}
use Rattle.std.specs.Option.{option_map_or}
use Rattle.std.specs.Prelude.{All, IfSome, IsSomeAnd, IsTrue, is_some, slice_get}
use Rattle.std.proofs.lemmas.Bool.{both_ways, cases_eq, lt-ltb}
use Rattle.ntfs_def.specs.Attribute.{attributes}
use Rattle.ntfs_def.specs.Fixup.{opened_of}
use Rattle.ntfs_def.specs.Record.{Reference, is_in_use}
use Rattle.ntfs_def.specs.declared.records.TheConstants.{FIRST_ORDINARY}
use Rattle.list_laws.specs.SameItems.{SameItems}
use Rattle.list_laws.proofs.OptionLaws.{if-some, none_other}
use Rattle.volume_def.specs.AttributesClause.{IsRightRecord, MeetsAttributes}
use Rattle.volume_def.specs.ExtentsClause.{MeetsExtents}
use Rattle.volume_def.specs.Files.{Record, file_of, is_base, is_of, part_of, parts, record_in, record_of}
use Rattle.volume_def.specs.Files.{record_on, records_of}
use Rattle.volume_def.specs.LimitsClause.{IsInLimits, MeetsLimits}
use Rattle.volume_def.specs.ListsClause.{HasRightList, MeetsLists}
use Rattle.volume_def.specs.Members.{FreesEmpty}
use Rattle.volume_def.specs.OwnersClause.{record_runs}
use Rattle.volume_def.specs.Readable.{IsFile}
use Rattle.volume_def.specs.ReferencesClause.{NamesBase}
use Rattle.volume_def.specs.ShapeClause.{MeetsShape}
use Rattle.volume_def.specs.Table.{IsWellFormed, TableLayout, cluster_bytes}
use Rattle.volume_def.specs.View.{VolumeView}
use Rattle.volume_def.proofs.ExtentsClauseLaws.{MeetsExtents-freed}
use Rattle.volume_def.proofs.OtherListLaws.{HasRightList-freed}
use Rattle.volume_def.proofs.ReadableLaws.{of_base}
use Rattle.volume_def.proofs.RecordLaws.{parts-freed}
use Rattle.volume_def.proofs.ViewLaws.{ChangesAt-block, record_at-written}
use Rattle.edit_def.specs.Edited.{is_table_key}
use Rattle.edit_def.specs.Forms.{attributes_on, forms_of}
use Rattle.edit_def.specs.Kept.{Key}
use Rattle.edit_def.specs.Marks.{Marks}
use Rattle.edit_def.specs.Names.{HasRightBases}
use Rattle.record_edits.specs.Pending.{IsPending, Stepped}
use Rattle.record_edits.proofs.ClauseEdits.{base-there}
use Rattle.record_edits.proofs.SystemKept.{KeepsSystem}
use Rattle.record_edits.proofs.WholeLaws.{of-file, whole-still}
use Rattle.file_edits.specs.Steps.{FreesExtension}
use Rattle.file_edits.proofs.Frame.{lists-kept, none, clusters-stay, state, step}
use Rattle.file_edits.proofs.MoveKeeps.{KeepsBut-parts}
use Rattle.file_edits.proofs.RoomSteps.{Keeps-freed}
use Rattle.edit_def.specs.Account.{nothing}
use Rattle.file_edits.proofs.RecordSteps.{forms-same, no-attributes, runs-empty, times-empty}

module _ (f : ℕ) (old new : VolumeView) (before after : Marks) (t : FreesExtension f old new before after) where
  abbrev pub was_record : Record
  was_record = record_of t.n (opened_of (old.block t.n))

  pub was-at : record_on old t.n ≡ Some was_record
  unfolding record_in
  was-at =
      ap (λ b. cond b (record_in t.n (old.block t.n)) None) (lt-ltb t.n old.layout.count t.inside)
      ∙ ap (λ b. cond b (Some was_record) None) t.used

  pub now-at : record_on new t.n ≡ None
  unfolding record_in
  now-at =
      record_at-written old new t.n t.stored t.replaces t.told t.inside
      ∙ ap (λ b. cond b (Some (record_of t.n (opened_of t.stored))) None) t.gone

  pub no-parts : was_record.parts ≡ []
  no-parts = ap (map (part_of t.n)) t.empty

  abbrev pub frees : FreesEmpty (records_of old) (records_of new) t.n
  frees = record {
    changes = ChangesAt-block old new t.n t.stored t.replaces;
    inside = t.inside;
    was_record = was_record;
    was_at = was-at;
    empty = no-parts;
    now_at = now-at;
  }

  layout : new.layout ≡ old.layout
  layout = t.replaces.layout

  pub other-at : (m : ℕ) → m ≢ t.n → record_on new m ≡ record_on old m
  other-at = frees.changes.others

  -- a record that is there stood there
  stood : (m : ℕ) (r : Record) → record_on new m ≡ Some r → (m ≢ t.n) × (record_on old m ≡ Some r)
  stood m r at = (ne, sym (other-at m ne) ∙ at)
    where
      ne : m ≢ t.n
      ne same = none_other (sym now-at ∙ sym (ap (record_on new) same) ∙ at)

  was-base : (m : ℕ) (r : Record) → record_on new m ≡ Some r → IsTrue (is_base r) → IsSomeAnd (record_on old m) (λ r. IsTrue (is_base r))
  was-base m r at base = base-there (record_on old m) r (stood m r at).1 base

  shaped : ((m : ℕ) → MeetsShape old m) → (m : ℕ) → MeetsShape new m
  shaped shape m = elim (cases_eq m t.n) [
    | inl same ↦ λ inside used. absurd (both_ways (is_in_use t.stored) t.gone
        (subst (λ b. IsTrue (is_in_use b)) (ap new.block same ∙ t.replaces.block t.told) used))
    | inr ne ↦ λ inside used.
        subst IsWellFormed (sym (t.replaces.blocks m ne))
        (shape m (subst (λ (l : TableLayout). m < l.count) layout inside) (subst (λ b. IsTrue (is_in_use b)) (t.replaces.blocks m ne) used))
  ]

  attributes-right : ((m : ℕ) → MeetsAttributes (records_of old) m) → (m : ℕ) → MeetsAttributes (records_of new) m
  attributes-right meets m =
      if-some (record_on new m) (IsRightRecord m) (λ r at. subst (λ o. IfSome o (IsRightRecord m)) (stood m r at).1 (meets m))

  limits : ((m : ℕ) → MeetsLimits (records_of old) m) → (m : ℕ) → MeetsLimits (records_of new) m
  limits meets m = if-some (record_on new m) (λ r. IsTrue (is_base r) → All (IsInLimits m) (parts (records_of new) m)) (λ r at base.
      subst (All (IsInLimits m)) (sym (parts-freed (records_of old) (records_of new) t.n m frees))
      (of_base (All (IsInLimits m) (parts (records_of old) m)) (record_on old m) (was-base m r at base) (meets m)))

  -- no reference names it as a base
  names-still : (reference : Reference) → NamesBase (records_of old) reference → NamesBase (records_of new) reference
  names-still reference h = elim (cases_eq reference.number t.n) [
    | inl same ↦ absurd (both_ways (is_base was_record) t.extension
        (subst (λ o. IsSomeAnd o (λ r. IsTrue (is_base r) × (r.header.sequence ≡ reference.sequence))) (ap (record_on old) same
        ∙ was-at) h).0)
    | inr ne ↦ subst (λ o. IsSomeAnd o (λ r. IsTrue (is_base r) × (r.header.sequence ≡ reference.sequence))) (sym
        (other-at reference.number ne)) h
  ]

  bases : HasRightBases (records_of old) → HasRightBases (records_of new)
  bases was m = if-some (record_on new m) (λ r. IfSome r.header.base (NamesBase (records_of new))) (λ r at.
      each r.header.base (subst (λ o. IfSome o (λ r. IfSome r.header.base (NamesBase (records_of old)))) (stood m r at).1 (was m)))
    where
      each : (b : Option Reference) → IfSome b (NamesBase (records_of old)) → IfSome b (NamesBase (records_of new))
      each None h = h
      each (Some reference) h = names-still reference h

  forms : (g : ℕ) → SameItems (forms_of old g) (forms_of new g)
  forms g = forms-same old new g layout (λ m. elim (cases_eq m t.n) [
    | inr ne ↦ ap (λ o. option_map_or (λ r. cond (file_of m r == g) (attributes (opened_of (new.block m))) []) o []) (other-at m ne)
        ∙ ap (λ b. option_map_or (λ r. cond (file_of m r == g) (attributes (opened_of b)) []) (record_on old m) []) (t.replaces.blocks m ne)
    | inl same ↦ ap (attributes_on new g) same
        ∙ ap (λ o. option_map_or (λ r. cond (file_of t.n r == g) (attributes (opened_of (new.block t.n))) []) o []) now-at
        ∙ sym (no-attributes (file_of t.n was_record == g) (attributes (opened_of (old.block t.n))) t.empty)
        ∙ sym (ap (λ o. option_map_or (λ r. cond (file_of t.n r == g) (attributes (opened_of (old.block t.n))) []) o []) was-at)
        ∙ sym (ap (attributes_on old g) same)
  ])

  pub system : KeepsSystem old new
  system = record {
    layout = layout;
    blocks = λ m low. t.replaces.blocks m (λ same. absurd (let high = t.ordinary in omega (arith, low, same, high)));
    copies = λ m low. t.replaces.copies m low (λ same. absurd (let high = t.ordinary in omega (arith, low, same, high)));
    parts_are = λ m low other. parts-freed (records_of old) (records_of new) t.n m frees;
  }

  used-rows : (marks : (m : ℕ) → FIRST_ORDINARY ≤ m → m < old.layout.count → slice_get before.records m ≡ Some (is_some (record_on old m)))
      → (m : ℕ) → FIRST_ORDINARY ≤ m → m < new.layout.count → slice_get after.records m ≡ Some (is_some (record_on new m))
  used-rows marks m low lt = elim (cases_eq m t.n) [
    | inl same ↦ ap (slice_get after.records) same ∙ t.row.row ∙ ap (λ o. Some (is_some o)) (sym now-at)
        ∙ ap (λ k. Some (is_some (record_on new k))) (sym same)
    | inr ne ↦ t.row.others m ne ∙ marks m low (subst (λ (l : TableLayout). m < l.count) layout lt)
        ∙ ap (λ o. Some (is_some o)) (sym (other-at m ne))
  ]

  step-freed : (lags : Key → Bool) → IsPending f lags old before → Stepped f lags none nothing old new before after
  step-freed lags was =
      step f lags old new before after system t.replaces.clusters was nothing t.replaces.told t.replaces.rest
      (KeepsBut-parts is_table_key old new (λ g. parts-freed (records_of old) (records_of new) t.n g frees)
      (clusters-stay f lags old new before after system t.replaces.clusters was))
      forms
      (Keeps-freed old new t.n (ap (λ (l : TableLayout). l.clusters) layout) (ap cluster_bytes layout) frees)
      (state f lags old new before after system t.replaces.clusters was (shaped was.shape) (attributes-right was.attributes) lists extents
      (λ is key own free. whole-still old new key (ap (filter (is_of key.kind key.name)) (parts-freed (records_of old) (records_of new) t.n
      key.file frees)) layout (was.streams (of-file new f (IsFile old f) (was-base f) is) key own free))
      (λ c. times-empty (records_of old) (records_of new) t.n c frees.changes t.inside (runs-empty
      (record_on old t.n) was_record was-at no-parts)
      (ap record_runs now-at))
      (limits was.limits) (bases was.bases) t.row.clusters t.row.count (used-rows was.right.used))
      (λ m low free. other-at m (λ same. absurd (let high = t.ordinary in omega (arith, low, same, high))) ∙ free)
      (λ m r at other. (stood m r at).1)
    where
      lists : (m : ℕ) → m ≢ f → MeetsLists new m
      lists m ne = if-some (record_on new m) (λ r. IsTrue (is_base r) → HasRightList new m (parts (records_of new) m)) (λ r at base.
          HasRightList-freed old new t.n m frees layout (lists-kept f lags old new before after system t.replaces.clusters was m)
          (of_base (HasRightList old m (parts (records_of old) m)) (record_on old m) (was-base m r at base) (was.lists m ne)))

      extents : (m : ℕ) → m ≢ f → MeetsExtents (records_of new) (cluster_bytes new.layout) m
      extents m ne = subst (λ (l : TableLayout). MeetsExtents (records_of new) (cluster_bytes l) m) (sym layout)
          (MeetsExtents-freed (records_of old) (records_of new) (cluster_bytes old.layout) t.n m frees (was.extents m ne))

pub stepped-freed : (f : ℕ) (lags : Key → Bool) (old new : VolumeView) (before after : Marks) → FreesExtension f old new before after
    → IsPending f lags old before → Stepped f lags none nothing old new before after
stepped-freed f lags old new before after t = step-freed f old new before after t lags
