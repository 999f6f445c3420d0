-- A FILE COMES: it is a call that names it.
use Rattle.std.proofs.Common.{◌≡◌, ◌≢◌, ◌≤◌, ◌<◌, ◌+◌, ◌*◌, ◌/◌, ◌^◌, ◌&&◌, not, max, ℕ, Bool, true, false, cond, List, []}
use Rattle.std.proofs.Common.{◌∷◌, length, map, filter, Option, Some, None}
use Rattle.std.proofs.Common.{refl, sym, ap, subst, ◌∙◌, inl, inr, arith}
use Rattle.std.specs.List.{Contains}
use Rattle.std.specs.Prelude.{All, IfSome, IsSome, IsSomeAnd, IsTrue, count_by, is_none, is_some, nat_le, nat_lt, option_map, slice_get}
use Rattle.std.specs.Prelude.{sum_by, unwrap_or}
use Rattle.std.proofs.lemmas.Bool.{cases_eq, leb-true, ne_eqb}
use Rattle.std.proofs.lemmas.List.{nil_from_length}
use Rattle.std.proofs.lemmas.List.Elements.{All-contains}
use Rattle.std.proofs.lemmas.List.Sums.{length-filter, sum_by-le}
use Rattle.std.proofs.Math.Nat.{mul-le-mul_left, mul_comm}
use Rattle.ntfs_def.specs.Fixup.{opened_of}
use Rattle.ntfs_def.specs.Record.{Reference, is_in_use}
use Rattle.ntfs_def.specs.declared.kinds.TheConstants.{ATTRIBUTE_LIST, FILE_NAME}
use Rattle.ntfs_def.specs.declared.records.TheConstants.{FIRST_ORDINARY}
use Rattle.list_laws.proofs.FilterLaws.{filter-all}
use Rattle.list_laws.proofs.FindLaws.{count-none, count-some}
use Rattle.list_laws.proofs.MemberLaws.{All-from_Contains, Contains-cases, Contains-nil, nil-from_Contains}
use Rattle.list_laws.proofs.OptionLaws.{if-some, none_other, some_same}
use Rattle.list_laws.proofs.SameItemsLaws.{SameItems-same}
use Rattle.volume_def.specs.AttributesClause.{IsRightRecord, MeetsAttributes}
use Rattle.volume_def.specs.Edits.{ChangesAt, said_by}
use Rattle.volume_def.specs.ExtentsClause.{AreAttribute, MeetsExtents}
use Rattle.volume_def.specs.Files.{Clusters, Content, Part, Record, Value, content_extent, content_value, file_of, is_base}
use Rattle.volume_def.specs.Files.{parts, parts_like, record_in, record_of, record_on, records_of}
use Rattle.volume_def.specs.LimitsClause.{IsInLimits, MeetsLimits}
use Rattle.volume_def.specs.ListsClause.{HasRightList, IsAlone, IsRightList, MeetsLists, is_list, listed_parts}
use Rattle.volume_def.specs.ReferencesClause.{NamesBase}
use Rattle.volume_def.specs.Room.{list_entry_len, longest_name}
use Rattle.volume_def.specs.ShapeClause.{MeetsShape}
use Rattle.volume_def.specs.Readable.{IsFile}
use Rattle.volume_def.specs.Table.{IsWellFormed, TableLayout, cluster_bytes}
use Rattle.volume_def.specs.View.{VolumeView}
use Rattle.volume_def.proofs.ExtentsClauseLaws.{MeetsExtents-said}
use Rattle.volume_def.proofs.OtherListLaws.{HasRightList-kept}
use Rattle.volume_def.proofs.ReadableLaws.{of_base}
use Rattle.volume_def.proofs.ViewLaws.{ChangesAt-block, record_at-written}
use Rattle.edit_def.specs.Account.{Keeps, IsPlanned, Wants, entry_bytes}
use Rattle.edit_def.specs.Edited.{Edited, is_bare}
use Rattle.edit_def.specs.Kept.{Key}
use Rattle.edit_def.specs.Marks.{Marks}
use Rattle.edit_def.specs.Names.{HasRightBases}
use Rattle.edit_def.specs.Purses.{can_leave, is_emptied, list_len_in, is_list_of, is_table_bits, is_table_data, is_value, one_if}
use Rattle.edit_def.specs.Purses.{room_of}
use Rattle.edit_def.proofs.SumLaws.{sum-rule}
use Rattle.edit_def.proofs.ToldLaws.{part-file}
use Rattle.record_edits.specs.Between.{IsReady}
use Rattle.record_edits.specs.Pending.{IsPending, Stepped}
use Rattle.record_edits.specs.Whole.{IsWhole}
use Rattle.record_edits.proofs.WholeLaws.{whole-from}
use Rattle.record_edits.proofs.ClauseEdits.{base-there}
use Rattle.record_edits.proofs.PendingStates.{no_key, edited-from, meets-list, pending-from, ready-from}
use Rattle.record_edits.proofs.RoomEdits.{longest-append, rows-self}
use Rattle.record_edits.proofs.SystemKept.{KeepsSystem}
use Rattle.file_edits.specs.Files.{CostsFile, IsPlainValue, MakesFile, is_file_key}
use Rattle.file_edits.proofs.FileBeside.{HasMore}
use Rattle.file_edits.proofs.FileBeside as beside
use Rattle.file_edits.proofs.FileKeeps.{forms-file, kept-file}
use Rattle.file_edits.proofs.Frame.{clusters-stay, lists-kept, state, step-named}

-- the longest name is at least each
each-name : (xs : List Part) (part : Part) → Contains xs part → length part.name / 2 ≤ longest_name xs
each-name xs part c = by xs c
  where
    by : (xs : List Part) → Contains xs part → length part.name / 2 ≤ longest_name xs
    by [] c = absurd (Contains-nil part c)
    by (x ∷ xs) c = elim (Contains-cases x xs part c) [
      | inl e ↦ let one = longest-append (x ∷ []) xs in let same = ap (λ (p : Part). length p.name / 2) e in omega (arith, one, same)
      | inr later ↦ let one = longest-append (x ∷ []) xs in omega (arith, one, by xs later)
    ]

module _ (f : ℕ) (old new : VolumeView) (before after : Marks) (t : MakesFile f old new before after) (ready : IsReady old before) where
  abbrev pub there : Record
  there = record_of f (opened_of t.stored)

  pub now-at : record_on new f ≡ Some there
  unfolding record_in
  now-at = record_at-written old new f t.stored t.replaces t.told t.inside ∙ ap (λ b. cond b (Some there) None) t.used

  pub changes : ChangesAt (records_of old) (records_of new) f
  changes = ChangesAt-block old new f t.stored t.replaces

  pub layout : new.layout ≡ old.layout
  layout = t.replaces.layout

  -- no record of it was there
  never-there : IsSomeAnd (record_on old f) (λ r. IsTrue (is_base r)) → ⊥
  never-there h = subst (λ o. IsSomeAnd o (λ r. IsTrue (is_base r))) t.free h

  pub alone : parts (records_of old) f ≡ []
  alone = nil-from_Contains (parts (records_of old) f) (λ part c. never-there (part-file old f part ready.bases c))

  abbrev pub more : HasMore f old new
  more = record {
    layout = layout;
    inside = t.inside;
    blocks = t.replaces.blocks;
    others = changes.others;
    none = t.free;
    there = there;
    some = now-at;
    plain = t.plain;
    alone = alone;
  }

  pub other-at : (m : ℕ) → m ≢ f → record_on new m ≡ record_on old m
  other-at = changes.others

  own-file : file_of f there ≡ f
  own-file = beside.own-file f old new more

  parts-own : parts (records_of new) f ≡ there.parts
  parts-own = beside.parts-own f old new more

  parts-other : (g : ℕ) → g ≢ f → parts (records_of new) g ≡ parts (records_of old) g
  parts-other = beside.parts-other f old new more

  value-of : (part : Part) → Contains there.parts part → IsPlainValue part
  value-of part c = All-contains IsPlainValue there.parts part t.plain.values c

  system : KeepsSystem old new
  system = record {
    layout = layout;
    blocks = λ m low. t.replaces.blocks m (λ same. absurd (let high = t.ordinary in omega (arith, low, same, high)));
    copies = λ m low. t.replaces.copies m low (λ same. absurd (let high = t.ordinary in omega (arith, low, same, high)));
    parts_are = λ m low root. parts-other m (λ same. absurd (let high = t.ordinary in omega (arith, low, same, high)));
  }

  -- no record belonged to it
  no-record : (n : ℕ) (r : Record) → record_on old n ≡ Some r → file_of n r ≡ f → ⊥
  no-record n r at file = by r.header.base refl
    where
      by : (b : Option Reference) → r.header.base ≡ b → ⊥
      by None e =
          let is : n ≡ f = sym (ap (λ (b : Option Reference). unwrap_or (option_map (λ (r : Reference). r.number) b) n) e) ∙ file in
          none_other (sym t.free ∙ sym (ap (record_on old) is) ∙ at)
      by (Some reference) e =
          let is : reference.number ≡ f = sym (ap (λ (b : Option Reference). unwrap_or (option_map (λ
          (r : Reference). r.number) b) n) e) ∙ file in
          let named = subst (λ (b : Option Reference). IfSome b (NamesBase (records_of old))) e
          (subst (λ o. IfSome o (λ r. IfSome r.header.base (NamesBase (records_of old)))) at (ready.bases n)) in
          subst (λ o. IsSomeAnd o (λ r. IsTrue (is_base r) × (r.header.sequence ≡ reference.sequence))) (ap (record_on old) is
          ∙ t.free) named

  -- CLAUSES
  shaped : (m : ℕ) → MeetsShape new m
  shaped m = elim (cases_eq m f) [
    | inl same ↦ λ inside used. subst IsWellFormed (sym (ap new.block same ∙ t.replaces.block t.told)) t.well
    | inr ne ↦ λ inside used.
        subst IsWellFormed (sym (t.replaces.blocks m ne))
        (ready.editable.readable.shape m (subst (λ (l : TableLayout). m < l.count) layout inside)
        (subst (λ b. IsTrue (is_in_use b)) (t.replaces.blocks m ne) used))
  ]

  attributes-right : (m : ℕ) → MeetsAttributes (records_of new) m
  attributes-right m = elim (cases_eq m f) [
    | inl same ↦ subst (MeetsAttributes (records_of new)) (sym same) (subst (λ o. IfSome o (IsRightRecord f)) (sym now-at) t.right)
    | inr ne ↦ subst (λ o. IfSome o (IsRightRecord m)) (sym (other-at m ne)) (ready.editable.readable.attributes m)
  ]

  extents : (m : ℕ) → MeetsExtents (records_of new) (cluster_bytes new.layout) m
  extents m = elim (cases_eq m f) [
    | inl same ↦ subst (MeetsExtents (records_of new) (cluster_bytes new.layout)) (sym same)
        (if-some (record_on new f) (λ r. IsTrue (is_base r) → AllAre new.layout (parts (records_of new) f)) (λ r at base.
        subst (AllAre new.layout) (sym parts-own) (subst (λ l. AllAre l there.parts) (sym layout) t.streams)))
    | inr ne ↦ subst (λ (l : TableLayout). MeetsExtents (records_of new) (cluster_bytes l) m) (sym layout)
        (MeetsExtents-said (records_of old) (records_of new) (cluster_bytes old.layout) m (SameItems-same _ _ (ap (map said_by) (sym
        (parts-other m ne))))
        (subst (λ o. IsSomeAnd o (λ r. IsTrue (is_base r))) (other-at m ne)) (ready.editable.readable.extents m))
  ]
    where
      AllAre : TableLayout → List Part → Type 0
      AllAre l ps = All (λ part. part.kind ≢ FILE_NAME → AreAttribute (cluster_bytes l) f (parts_like part ps)) ps

  in-limits : (part : Part) → IsSome (content_value part.content) → IsInLimits f part
  in-limits part is kind bad = by part.content is
    where
      by : (content : Content) → IsSome (content_value content) → IfSome (content_extent content) (λ extent.
          extent.sizes.first ≡ 0 → extent.sizes.real ≤ 2 ^ 40)
      by (Value value) is = tt
      by (Clusters extent runs) is = cc

  limits : (m : ℕ) → MeetsLimits (records_of new) m
  limits m = elim (cases_eq m f) [
    | inl same ↦ subst (MeetsLimits (records_of new)) (sym same)
        (if-some (record_on new f) (λ r. IsTrue (is_base r) → All (IsInLimits f) (parts (records_of new) f)) (λ r at base.
        subst (All (IsInLimits f)) (sym parts-own)
        (All-from_Contains (IsInLimits f) there.parts (λ part c. in-limits part (value-of part c).value))))
    | inr ne ↦ if-some (record_on new m) (λ r. IsTrue (is_base r) → All (IsInLimits m) (parts (records_of new) m)) (λ r at base.
        subst (All (IsInLimits m)) (sym (parts-other m ne))
        (of_base (All (IsInLimits m) (parts (records_of old) m)) (record_on old m)
        (base-there (record_on old m) r (sym (other-at m ne) ∙ at) base) (ready.limits m)))
  ]

  names-still : (reference : Reference) → NamesBase (records_of old) reference → NamesBase (records_of new) reference
  names-still reference h = elim (cases_eq reference.number f) [
    | inl same ↦ absurd (subst (λ o. IsSomeAnd o (λ r. IsTrue (is_base r) × (r.header.sequence ≡ reference.sequence))) (ap
        (record_on old) same ∙ t.free) h)
    | inr ne ↦ subst (λ o. IsSomeAnd o (λ r. IsTrue (is_base r) × (r.header.sequence ≡ reference.sequence))) (sym
        (other-at reference.number ne)) h
  ]

  bases : HasRightBases (records_of new)
  bases m = elim (cases_eq m f) [
    | inl same ↦ subst (λ o. IfSome o (λ r. IfSome r.header.base (NamesBase (records_of new)))) (sym (ap (record_on new) same ∙ now-at))
        (own there.header.base t.plain.base)
    | inr ne ↦ subst (λ o. IfSome o (λ r. IfSome r.header.base (NamesBase (records_of new)))) (sym (other-at m ne)) (of
        (record_on old m) (ready.bases m))
  ]
    where
      own : (b : Option Reference) → IsTrue (is_none b) → IfSome b (NamesBase (records_of new))
      own None is = tt
      own (Some reference) is = cc

      each : (b : Option Reference) → IfSome b (NamesBase (records_of old)) → IfSome b (NamesBase (records_of new))
      each None h = h
      each (Some reference) h = names-still reference h

      of : (o : Option Record) → IfSome o (λ r. IfSome r.header.base (NamesBase (records_of old)))
          → IfSome o (λ r. IfSome r.header.base (NamesBase (records_of new)))
      of None h = h
      of (Some r) h = each r.header.base h

  -- LISTS
  no-list : (part : Part) → Contains there.parts part → is_list part ≡ false
  no-list part c = ne_eqb part.kind ATTRIBUTE_LIST (value-of part c).no_list

  list-own : HasRightList new f (parts (records_of new) f)
  list-own =
      let zero : count_by is_list (parts (records_of new) f) ≡ 0 = ap (count_by is_list) parts-own
      ∙ count-none is_list there.parts no-list in
      record {
        few = omega (arith, zero);
        each = All-from_Contains (λ part. IsTrue (is_list part) → IsRightList new f (parts (records_of new) f) part) (parts
            (records_of new) f)
            (λ part among is. absurd (let some = count-some is_list (parts (records_of new) f) part among is in omega (arith, zero, some)));
        alone = λ none n. if-some (record_on new n) (λ r. file_of n r ≡ f → n ≡ f) (λ r at file. elim (cases_eq n f) [
          | inl same ↦ same
          | inr ne ↦ absurd (no-record n r (sym (other-at n ne) ∙ at) file)
        ]);
      }

  alone-still : (m : ℕ) → m ≢ f → IsAlone old m → IsAlone new m
  alone-still m ne h n = elim (cases_eq n f) [
    | inl is ↦ subst (λ k. IfSome (record_on new k) (λ r. file_of k r ≡ m → k ≡ m)) (sym is)
        (subst (λ o. IfSome o (λ r. file_of f r ≡ m → f ≡ m)) (sym now-at) (λ e. absurd (ne (sym e ∙ own-file))))
    | inr other ↦ subst (λ o. IfSome o (λ r. file_of n r ≡ m → n ≡ m)) (sym (other-at n other)) (h n)
  ]

  lists : IsPending f no_key old before → (m : ℕ) → m ≢ f → MeetsLists new m
  lists was m ne = if-some (record_on new m) (λ r. IsTrue (is_base r) → HasRightList new m (parts (records_of new) m)) (λ r at base.
      subst (HasRightList new m) (sym (parts-other m ne))
      (HasRightList-kept old new m (parts (records_of old) m) layout
      (lists-kept f no_key old new before after system t.replaces.clusters was m)
      (beside.entries-other f old new more m) (alone-still m ne)
      (of_base (HasRightList old m (parts (records_of old) m)) (record_on old m)
      (base-there (record_on old m) r (sym (other-at m ne) ∙ at) base) (was.lists m ne))))

  -- THE BITS
  used-rows : (m : ℕ) → FIRST_ORDINARY ≤ m → m < new.layout.count → slice_get after.records m ≡ Some (is_some (record_on new m))
  used-rows m low lt = elim (cases_eq m f) [
    | inl same ↦ ap (slice_get after.records) same ∙ t.row.row ∙ ap (λ o. Some (is_some o)) (sym now-at)
        ∙ ap (λ k. Some (is_some (record_on new k))) (sym same)
    | inr ne ↦ t.row.others m ne ∙ ready.editable.right.used m low (subst (λ (l : TableLayout). m < l.count) layout lt)
        ∙ ap (λ o. Some (is_some o)) (sym (other-at m ne))
  ]

  -- THE STATE after it
  streams : IsFile new f → (key : Key) → key.file ≡ f → no_key key ≡ false → IsWhole new key
  streams is key own free = whole-from new key (extents key.file) (subst (IsFile new) (sym own) is)

  pending : IsPending f no_key new after
  pending =
      let was = pending-from f no_key old before ready in
      state f no_key old new before after system t.replaces.clusters was shaped attributes-right (lists was) (λ m ne. extents m) streams
      (beside.times-same f old new more) limits bases t.row.clusters t.row.count used-rows

  pub ready-comes : IsReady new after
  ready-comes = ready-from f no_key new after (meets-list new f list-own) (extents f) pending

  -- WHAT IT COSTS
  module _ (wants : Wants) (costs : CostsFile f there.parts wants) where
    emptied-same : (m : ℕ) → is_emptied (record_on new m) ≡ is_emptied (record_on old m)
    emptied-same m = elim (cases_eq m f) [
      | inr ne ↦ ap is_emptied (other-at m ne)
      | inl same ↦ ap (λ k. is_emptied (record_on new k)) same ∙ ap is_emptied now-at
          ∙ ap (λ n. nat_lt 0 n && nat_le (length (filter can_leave there.parts)) 0) (length-filter is_list there.parts
          ∙ count-none is_list there.parts no-list)
          ∙ sym (ap is_emptied t.free) ∙ sym (ap (λ k. is_emptied (record_on old k)) same)
    ]

    entry-most : (most : ℕ) → wants.units f ≤ most → sum_by list_entry_len (listed_parts there.parts) ≤ wants.parts f * entry_bytes most
    entry-most most least =
        let listed = filter-all (λ (p : Part). not (is_list p)) there.parts (λ part c. ap not (no-list part c)) in
        let all = sum_by-le list_entry_len (entry_bytes most) there.parts (All-from_Contains
        (λ part. list_entry_len part ≤ entry_bytes most) there.parts
        (λ part c.
        let units = each-name there.parts part c in
        let even = (value-of part c).units in
        let names = costs.names in
        omega (arith, units, even, names, least))) in
        let wide : entry_bytes most * length there.parts ≤ entry_bytes most * wants.parts f = mul-le-mul_left
        (entry_bytes most) costs.parts_are in
        let a = mul_comm (entry_bytes most) (length there.parts) in
        let b = mul_comm (entry_bytes most) (wants.parts f) in
        let same = ap (sum_by list_entry_len) listed in
        omega (arith, all, wide, a, b, same)

    spends : Keeps (room_of old) (room_of new) wants
    unfolding IsPlanned
    spends = λ plan pos planned.
        let sums = λ (test : ℕ → Part → Bool). beside.sums-same f old new more test in
        let count = ap (λ (l : TableLayout). l.count) layout in
        let used = beside.used-most f old new more in
        let one = costs.one in
        let emptied = sum-rule (λ m. one_if (not (is_emptied (record_on new m)))) (λ m. one_if (not (is_emptied (record_on old m))))
        (λ m. ap (λ b. one_if (not b)) (emptied-same m)) plan.files in
        record {
          size = ap cluster_bytes layout;
          names = λ g. elim (cases_eq g f) [
            | inr ne ↦ let same = ap longest_name (parts-other g ne) in omega (arith, same)
            | inl e ↦ subst (λ k. longest_name (parts (records_of new) k) ≤ max (longest_name (parts (records_of old) k))
                (wants.units k)) (sym e)
                (let same = ap longest_name parts-own in let least = costs.names in omega (arith, same, least))
          ];
          volume = ap (λ (l : TableLayout). l.clusters) layout;
          values = omega (arith, sums (is_value plan.files));
          lengths = λ g. elim (cases_eq g f) [
            | inr ne ↦ let same = ap (λ all. sum_by list_entry_len (listed_parts all)) (parts-other g ne) in omega (arith, same)
            | inl e ↦ subst (λ k. list_len_in (records_of new) k ≤ list_len_in (records_of old) k + wants.parts k * entry_bytes
                (plan.name k)) (sym e)
                (let same = ap (λ all. sum_by list_entry_len (listed_parts all)) parts-own in
                let most = entry-most (plan.name f) (let least = planned.1 f in omega (arith, least)) in
                omega (arith, same, most))
          ];
          lists = λ g. omega (arith, sums (is_list_of g));
          claimed = omega (arith, used, emptied, one);
          records = omega (arith, count, rows-self (room_of old plan).claimed wants.records (room_of old plan).records);
          grows = omega (arith, count);
          table = omega (arith, sums is_table_data);
          bitmap = omega (arith, sums is_table_bits);
        }

    -- THE CALL
    whole : Stepped f no_key (is_file_key f) wants old new before after
    whole =
        let was = pending-from f no_key old before ready in
        step-named f no_key old new before after system t.replaces.clusters was (is_file_key f) wants t.replaces.told t.replaces.rest
        (kept-file f old new parts-other (clusters-stay f no_key old new before after system t.replaces.clusters was))
        (forms-file f old new parts-other (clusters-stay f no_key old new before after system t.replaces.clusters was)
        (beside.forms-other f old new more))
        spends
        pending
        (λ m low free. other-at m (λ same. absurd (let high = t.ordinary in omega (arith, low, same, high))) ∙ free)
        (λ m r at other. elim (cases_eq m f) [
          | inr ne ↦ sym (other-at m ne) ∙ at
          | inl same ↦ absurd (other (own m r same at))
        ])
      where
        own : (m : ℕ) (r : Record) → m ≡ f → record_on new m ≡ Some r → file_of m r ≡ f
        own m r same at =
            let is : there ≡ r = some_same (sym now-at ∙ sym (ap (record_on new) same) ∙ at) in
            ap (λ k. file_of k r) same ∙ sym (ap (file_of f) is) ∙ own-file

    held : (m : ℕ) → is_bare (record_on new m) ≡ true → is_bare (record_on old m) ≡ true
    held m bare = elim (cases_eq m f) [
      | inr ne ↦ sym (ap is_bare (other-at m ne)) ∙ bare
      | inl same ↦ absurd (t.plain.held (nil_from_length there.parts
          (let few = leb-true (length there.parts) 0 (sym (ap (λ k. is_bare (record_on new k)) same ∙ ap is_bare now-at)
          ∙ bare) in omega (arith, few))))
    ]

    pub edited-comes : Edited (is_file_key f) wants old new before after
    edited-comes = edited-from f no_key (is_file_key f) wants old new before after whole (meets-list new f list-own) (extents f) held
