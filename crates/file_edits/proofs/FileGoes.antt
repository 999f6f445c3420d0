-- A FILE GOES: it is a call that names it.
use Rattle.std.proofs.Common.{◌≡◌, ◌≢◌, ◌≤◌, ◌<◌, ◌==◌, not, ℕ, Bool, true, false, cond}
use Rattle.std.proofs.Common.{List, [], ◌∷◌, map, Option, Some, None}
use Rattle.std.proofs.Common.{refl, sym, ap, subst, ◌∙◌, inl, inr, arith}
use Rattle.std.specs.Prelude.{All, IfSome, IsSomeAnd, IsTrue, is_some, option_map, slice_get}
use Rattle.std.specs.Prelude.{sum_by, unwrap_or}
use Rattle.std.proofs.lemmas.Bool.{both_ways, cases_eq, eq-eqb, or_parts}
use Rattle.std.proofs.lemmas.List.Sums.{sum_by-cons}
use Rattle.ntfs_def.specs.Fixup.{opened_of}
use Rattle.ntfs_def.specs.Record.{Reference, is_in_use}
use Rattle.ntfs_def.specs.declared.kinds.TheConstants.{FILE_NAME}
use Rattle.ntfs_def.specs.declared.records.TheConstants.{FIRST_ORDINARY}
use Rattle.list_laws.proofs.MemberLaws.{nil-from_Contains}
use Rattle.list_laws.proofs.OptionLaws.{if-some, none_other}
use Rattle.list_laws.proofs.SameItemsLaws.{SameItems-same}
use Rattle.volume_def.specs.AttributesClause.{IsRightRecord, MeetsAttributes}
use Rattle.volume_def.specs.Edits.{ChangesAt, said_by}
use Rattle.volume_def.specs.ExtentsClause.{AreAttribute, MeetsExtents}
use Rattle.volume_def.specs.Files.{Part, Record, file_of, is_base}
use Rattle.volume_def.specs.Files.{parts, parts_like, record_in, record_of, record_on, records_of}
use Rattle.volume_def.specs.LimitsClause.{IsInLimits, MeetsLimits}
use Rattle.volume_def.specs.ListsClause.{HasRightList, IsAlone, MeetsLists, listed_parts}
use Rattle.volume_def.specs.ReferencesClause.{NamesBase}
use Rattle.volume_def.specs.Room.{list_entry_len, longest_name}
use Rattle.volume_def.specs.ShapeClause.{MeetsShape}
use Rattle.volume_def.specs.Readable.{IsFile}
use Rattle.volume_def.specs.Table.{IsWellFormed, TableLayout, cluster_bytes}
use Rattle.volume_def.specs.View.{VolumeView}
use Rattle.volume_def.proofs.ExtentsClauseLaws.{MeetsExtents-said}
use Rattle.volume_def.proofs.OtherListLaws.{HasRightList-kept}
use Rattle.volume_def.proofs.ReadableLaws.{of_base}
use Rattle.volume_def.proofs.ViewLaws.{ChangesAt-block, record_at-written}
use Rattle.edit_def.specs.Account.{Keeps, IsPlanned, Wants}
use Rattle.edit_def.specs.Edited.{Edited, is_bare}
use Rattle.edit_def.specs.Kept.{Key}
use Rattle.edit_def.specs.Marks.{Marks}
use Rattle.edit_def.specs.Names.{HasRightBases}
use Rattle.edit_def.specs.Purses.{is_emptied, list_len_in, is_list_of, is_table_bits, is_table_data, is_value, one_if}
use Rattle.edit_def.specs.Purses.{room_of}
use Rattle.record_edits.specs.Between.{IsReady}
use Rattle.record_edits.specs.Pending.{IsPending, Stepped}
use Rattle.record_edits.specs.Whole.{IsWhole}
use Rattle.record_edits.proofs.WholeLaws.{whole-from}
use Rattle.record_edits.proofs.ClauseEdits.{base-there}
use Rattle.record_edits.proofs.PendingStates.{no_key, edited-from, pending-from, ready-from}
use Rattle.record_edits.proofs.RoomEdits.{rows-self}
use Rattle.record_edits.proofs.SystemKept.{KeepsSystem}
use Rattle.file_edits.specs.Files.{DropsFile, is_file_key}
use Rattle.file_edits.proofs.FileBeside.{HasMore}
use Rattle.file_edits.proofs.FileBeside as beside
use Rattle.file_edits.proofs.FileKeeps.{forms-file, kept-file}
use Rattle.file_edits.proofs.Frame.{clusters-stay, lists-kept, state, step-named}
use Rattle.edit_def.specs.Account.{is_among}
use Rattle.std.proofs.lemmas.Bool.{lt-ltb}
use Rattle.volume_def.specs.ListsClause.{entries_in}
use Rattle.volume_def.proofs.PartLaws.{HoldsPart-Contains}

-- a sum over files among which one is not
sum-among : (a b : ℕ → ℕ) (f : ℕ) → ((g : ℕ) → g ≢ f → a g ≡ b g) → (files : List ℕ) → is_among files f ≡ false
    → sum_by a files ≡ sum_by b files
sum-among a b f same [] none = refl
sum-among a b f same (x ∷ xs) none =
    let both = or_parts (f == x) (is_among xs f) none in
    let here = same x (λ e. both_ways (f == x) both.0 (eq-eqb f x (sym e))) in
    omega (arith, sum_by-cons a x xs, sum_by-cons b x xs, here, sum-among a b f same xs both.1)

module _ (f : ℕ) (old new : VolumeView) (before after : Marks) (t : DropsFile f old new before after) (ready : IsReady old before) where
  abbrev pub there : Record
  there = record_of f (opened_of (old.block f))

  pub was-at : record_on old f ≡ Some there
  unfolding record_in
  was-at =
      ap (λ b. cond b (record_in f (old.block f)) None) (lt-ltb f old.layout.count t.inside) ∙ ap (λ b. cond b (Some there) None) t.used

  pub now-at : record_on new f ≡ None
  unfolding record_in
  now-at =
      record_at-written old new f t.stored t.replaces t.told t.inside
      ∙ ap (λ b. cond b (Some (record_of f (opened_of t.stored))) None) t.gone

  pub changes : ChangesAt (records_of old) (records_of new) f
  changes = ChangesAt-block old new f t.stored t.replaces

  pub layout : new.layout ≡ old.layout
  layout = t.replaces.layout

  pub other-at : (m : ℕ) → m ≢ f → record_on new m ≡ record_on old m
  other-at = changes.others

  -- a record that is there stood there
  stood : (m : ℕ) (r : Record) → record_on new m ≡ Some r → (m ≢ f) × (record_on old m ≡ Some r)
  stood m r at = (ne, sym (other-at m ne) ∙ at)
    where
      ne : m ≢ f
      ne same = none_other (sym now-at ∙ sym (ap (record_on new) same) ∙ at)

  -- and is none of the file
  no-record : (n : ℕ) (r : Record) → record_on new n ≡ Some r → file_of n r ≢ f
  no-record n r at file = (stood n r at).0 (subst (λ o. IfSome o (λ r. file_of n r ≡ f → n ≡ f)) (stood n r at).1 (t.alone n) file)

  pub alone : parts (records_of new) f ≡ []
  alone = nil-from_Contains (parts (records_of new) f) (λ part c.
      let h = HoldsPart-Contains (records_of new) f part c in
      no-record h.0 h.1.record_there h.1.held h.1.file)

  abbrev pub more : HasMore f new old
  more = record {
    layout = sym layout;
    inside = subst (λ (l : TableLayout). f < l.count) (sym layout) t.inside;
    blocks = λ m ne. sym (t.replaces.blocks m ne);
    others = λ m ne. sym (other-at m ne);
    none = now-at;
    there = there;
    some = was-at;
    plain = t.plain;
    alone = alone;
  }

  parts-other : (g : ℕ) → g ≢ f → parts (records_of new) g ≡ parts (records_of old) g
  parts-other g ne = sym (beside.parts-other f new old more g ne)

  was-base : (m : ℕ) (r : Record) → record_on new m ≡ Some r → IsTrue (is_base r) → IsSomeAnd (record_on old m) (λ r. IsTrue (is_base r))
  was-base m r at base = base-there (record_on old m) r (stood m r at).1 base

  system : KeepsSystem old new
  system = record {
    layout = layout;
    blocks = λ m low. t.replaces.blocks m (λ same. absurd (let high = t.ordinary in omega (arith, low, same, high)));
    copies = λ m low. t.replaces.copies m low (λ same. absurd (let high = t.ordinary in omega (arith, low, same, high)));
    parts_are = λ m low root. parts-other m (λ same. absurd (let high = t.ordinary in omega (arith, low, same, high)));
  }

  -- CLAUSES
  shaped : (m : ℕ) → MeetsShape new m
  shaped m = elim (cases_eq m f) [
    | inl same ↦ λ inside used. absurd (both_ways (is_in_use t.stored) t.gone
        (subst (λ b. IsTrue (is_in_use b)) (ap new.block same ∙ t.replaces.block t.told) used))
    | inr ne ↦ λ inside used.
        subst IsWellFormed (sym (t.replaces.blocks m ne))
        (ready.editable.readable.shape m (subst (λ (l : TableLayout). m < l.count) layout inside)
        (subst (λ b. IsTrue (is_in_use b)) (t.replaces.blocks m ne) used))
  ]

  attributes-right : (m : ℕ) → MeetsAttributes (records_of new) m
  attributes-right m = if-some (record_on new m) (IsRightRecord m) (λ r at.
      subst (λ o. IfSome o (IsRightRecord m)) (stood m r at).1 (ready.editable.readable.attributes m))

  -- what the clauses ask of base records that stay
  extents : (m : ℕ) → MeetsExtents (records_of new) (cluster_bytes new.layout) m
  extents m = elim (cases_eq m f) [
    | inl same ↦ subst (MeetsExtents (records_of new) (cluster_bytes new.layout)) (sym same) (subst (λ o. IfSome o (λ r. IsTrue (is_base r)
        → All (λ part. part.kind ≢ FILE_NAME → AreAttribute (cluster_bytes new.layout) f (parts_like part (parts (records_of new) f)))
        (parts (records_of new) f))) (sym now-at) tt)
    | inr ne ↦ subst (λ (l : TableLayout). MeetsExtents (records_of new) (cluster_bytes l) m) (sym layout)
        (MeetsExtents-said (records_of old) (records_of new) (cluster_bytes old.layout) m (SameItems-same _ _ (ap (map said_by) (sym
        (parts-other m ne))))
        (subst (λ o. IsSomeAnd o (λ r. IsTrue (is_base r))) (other-at m ne)) (ready.editable.readable.extents m))
  ]

  limits : (m : ℕ) → MeetsLimits (records_of new) m
  limits m = if-some (record_on new m) (λ r. IsTrue (is_base r) → All (IsInLimits m) (parts (records_of new) m)) (λ r at base.
      subst (All (IsInLimits m)) (sym (parts-other m (stood m r at).0))
      (of_base (All (IsInLimits m) (parts (records_of old) m)) (record_on old m) (was-base m r at base) (ready.limits m)))

  bases : HasRightBases (records_of new)
  bases m = if-some (record_on new m) (λ r. IfSome r.header.base (NamesBase (records_of new))) (λ r at.
      each m r at r.header.base refl (subst (λ o. IfSome o (λ r. IfSome r.header.base (NamesBase (records_of old)))) (stood m r at).1
      (ready.bases m)))
    where
      each : (m : ℕ) (r : Record) → record_on new m ≡ Some r → (b : Option Reference) → r.header.base ≡ b
          → IfSome b (NamesBase (records_of old))
          → IfSome b (NamesBase (records_of new))
      each m r at None e h = h
      each m r at (Some reference) e h = elim (cases_eq reference.number f) [
        | inr ne ↦ subst (λ o. IsSomeAnd o (λ r. IsTrue (is_base r) × (r.header.sequence ≡ reference.sequence))) (sym
            (other-at reference.number ne)) h
        | inl same ↦ absurd (no-record m r at
            (ap (λ (b : Option Reference). unwrap_or (option_map (λ (r : Reference). r.number) b) m) e ∙ same))
      ]

  alone-still : (m : ℕ) → IsAlone old m → IsAlone new m
  alone-still m h n = if-some (record_on new n) (λ r. file_of n r ≡ m → n ≡ m) (λ r at.
      subst (λ o. IfSome o (λ r. file_of n r ≡ m → n ≡ m)) (stood n r at).1 (h n))

  entries : (m : ℕ) → m ≢ f → entries_in (records_of new) (parts (records_of old) m) ≡ entries_in (records_of old) (parts
      (records_of old) m)
  entries m ne = sym (subst (λ ps. entries_in (records_of old) ps ≡ entries_in (records_of new) ps) (parts-other m ne)
      (beside.entries-other f new old more m))

  lists : IsPending f no_key old before → (m : ℕ) → m ≢ f → MeetsLists new m
  lists was m ne = if-some (record_on new m) (λ r. IsTrue (is_base r) → HasRightList new m (parts (records_of new) m)) (λ r at base.
      subst (HasRightList new m) (sym (parts-other m ne))
      (HasRightList-kept old new m (parts (records_of old) m) layout
      (lists-kept f no_key old new before after system t.replaces.clusters was m)
      (entries m ne) (alone-still m)
      (of_base (HasRightList old m (parts (records_of old) m)) (record_on old m) (was-base m r at base) (was.lists m ne))))

  list-own : MeetsLists new f
  list-own = subst (λ o. IfSome o (λ r. IsTrue (is_base r) → HasRightList new f (parts (records_of new) f))) (sym now-at) tt

  -- THE BITS
  used-rows : (m : ℕ) → FIRST_ORDINARY ≤ m → m < new.layout.count → slice_get after.records m ≡ Some (is_some (record_on new m))
  used-rows m low lt = elim (cases_eq m f) [
    | inl same ↦ ap (slice_get after.records) same ∙ t.row.row ∙ ap (λ o. Some (is_some o)) (sym now-at)
        ∙ ap (λ k. Some (is_some (record_on new k))) (sym same)
    | inr ne ↦ t.row.others m ne ∙ ready.editable.right.used m low (subst (λ (l : TableLayout). m < l.count) layout lt)
        ∙ ap (λ o. Some (is_some o)) (sym (other-at m ne))
  ]

  -- THE STATE after it
  streams : IsFile new f → (key : Key) → key.file ≡ f → no_key key ≡ false → IsWhole new key
  streams is key own free = whole-from new key (extents key.file) (subst (IsFile new) (sym own) is)

  pending : IsPending f no_key new after
  pending =
      let was = pending-from f no_key old before ready in
      state f no_key old new before after system t.replaces.clusters was shaped attributes-right (lists was) (λ m ne. extents m) streams
      (λ c. sym (beside.times-same f new old more c)) limits bases t.row.clusters t.row.count used-rows

  pub ready-goes : IsReady new after
  ready-goes = ready-from f no_key new after list-own (extents f) pending

  -- WHAT IT COSTS: nothing, where the file is of no plan
  module _ (wants : Wants) (goes : wants.goes f ≡ true) where
    spends : Keeps (room_of old) (room_of new) wants
    unfolding IsPlanned
    spends = λ plan pos planned.
        let sums = λ (test : ℕ → Part → Bool). beside.sums-same f new old more test in
        let count = ap (λ (l : TableLayout). l.count) layout in
        let used = beside.used-least f new old more in
        let emptied = sum-among (λ m. one_if (not (is_emptied (record_on new m)))) (λ m. one_if (not (is_emptied (record_on old m)))) f
        (λ m ne. ap (λ o. one_if (not (is_emptied o))) (other-at m ne)) plan.files (planned.3 f goes) in
        record {
          size = ap cluster_bytes layout;
          names = λ g. elim (cases_eq g f) [
            | inr ne ↦ let same = ap longest_name (parts-other g ne) in omega (arith, same)
            | inl e ↦ let none = ap (λ k. longest_name (parts (records_of new) k)) e ∙ ap longest_name alone in omega (arith, none)
          ];
          volume = ap (λ (l : TableLayout). l.clusters) layout;
          values = omega (arith, sums (is_value plan.files));
          lengths = λ g. elim (cases_eq g f) [
            | inr ne ↦ let same = ap (λ all. sum_by list_entry_len (listed_parts all)) (parts-other g ne) in omega (arith, same)
            | inl e ↦
                let none = ap (λ k. list_len_in (records_of new) k) e ∙ ap (λ all. sum_by list_entry_len (listed_parts all)) alone in
                omega (arith, none)
          ];
          lists = λ g. omega (arith, sums (is_list_of g));
          claimed = omega (arith, used, emptied);
          records = omega (arith, count, rows-self (room_of old plan).claimed wants.records (room_of old plan).records);
          grows = omega (arith, count);
          table = omega (arith, sums is_table_data);
          bitmap = omega (arith, sums is_table_bits);
        }

    -- THE CALL
    whole : Stepped f no_key (is_file_key f) wants old new before after
    whole =
        let was = pending-from f no_key old before ready in
        step-named f no_key old new before after system t.replaces.clusters was (is_file_key f) wants t.replaces.told t.replaces.rest
        (kept-file f old new parts-other (clusters-stay f no_key old new before after system t.replaces.clusters was))
        (forms-file f old new parts-other (clusters-stay f no_key old new before after system t.replaces.clusters was)
        (λ g ne. sym (beside.forms-other f new old more g ne)))
        spends
        pending
        (λ m low free. other-at m (λ same. absurd (let high = t.ordinary in omega (arith, low, same, high))) ∙ free)
        (λ m r at other. (stood m r at).1)

    held : (m : ℕ) → is_bare (record_on new m) ≡ true → is_bare (record_on old m) ≡ true
    held m bare = elim (cases_eq m f) [
      | inr ne ↦ sym (ap is_bare (other-at m ne)) ∙ bare
      | inl same ↦ absurd (both_ways false refl (sym (ap (λ k. is_bare (record_on new k)) same ∙ ap is_bare now-at) ∙ bare))
    ]

    pub edited-goes : Edited (is_file_key f) wants old new before after
    edited-goes = edited-from f no_key (is_file_key f) wants old new before after whole list-own (extents f) held
