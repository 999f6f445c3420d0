-- AN ATTRIBUTE GOES TO ANOTHER RECORD of its file: it is a step.
use Rattle.std.proofs.Common.{◌≡◌, ◌≢◌, ◌≤◌, ◌<◌, ◌==◌, ◌&&◌, ◌^◌, ℕ, Bool, true, false, List, [], ◌∷◌, map, filter}
use Rattle.std.proofs.Common.{Some}
use Rattle.std.proofs.Common.{refl, sym, ap, subst, ◌∙◌, inl, inr, arith}
use Rattle.std.specs.List.{Contains}
use Rattle.std.specs.Option.{option_map_or}
use Rattle.std.specs.Prelude.{All, IfSome, IsFalse, IsSomeAnd, IsTrue, count_by, is_some}
use Rattle.std.specs.Str.{bytes_eq}
use Rattle.std.proofs.lemmas.Bool.{both_ways, cases_eq, ne_eqb}
use Rattle.std.proofs.lemmas.List.Elements.{All-contains}
use Rattle.ntfs_def.specs.Attribute.{Attribute, Body, extent_of}
use Rattle.ntfs_def.specs.declared.kinds.TheConstants.{ATTRIBUTE_LIST, DATA}
use Rattle.ntfs_def.specs.declared.records.TheConstants.{BAD_CLUSTERS}
use Rattle.list_laws.specs.SameItems.{SameItems}
use Rattle.list_laws.proofs.FindLaws.{count-no}
use Rattle.list_laws.proofs.MemberLaws.{All-from_Contains, Contains-head, Contains-nil, Contains-only, filter-map}
use Rattle.list_laws.proofs.OptionLaws.{if-some, some_same}
use Rattle.list_laws.proofs.ReplacesLaws.{Replaces-member, Replaces-stood, SameItems-moved}
use Rattle.list_laws.proofs.SameItemsLaws.{SameItems-filter, SameItems-map, SameItems-same, SameItems-trans}
use Rattle.volume_def.specs.Coverage.{IsOutsideTable}
use Rattle.volume_def.specs.Edits.{EditsAt, MovesPart, Said, said_by}
use Rattle.volume_def.specs.ExtentsClause.{MeetsExtents, bad_name}
use Rattle.volume_def.specs.Files.{Part, Record, content_extent, content_of, file_of, is_base, part_of, parts, record_on}
use Rattle.volume_def.specs.Files.{records_of}
use Rattle.volume_def.specs.LimitsClause.{IsInLimits, MeetsLimits}
use Rattle.volume_def.specs.ListsClause.{HasRightList, MeetsLists, is_list}
use Rattle.volume_def.specs.OwnersClause.{times_owned}
use Rattle.volume_def.specs.Table.{TableLayout, cluster_bytes}
use Rattle.volume_def.specs.View.{VolumeView}
use Rattle.volume_def.proofs.ExtentsClauseLaws.{MeetsExtents-moved, base-kept, parts_of-said}
use Rattle.volume_def.proofs.OtherListLaws.{HasRightList-unmoved}
use Rattle.volume_def.proofs.ReadableLaws.{of_base}
use Rattle.volume_def.proofs.RecordLaws.{file_of-kept, parts-moved, parts-own_at, parts-unmoved}
use Rattle.edit_def.specs.Account.{nothing}
use Rattle.edit_def.specs.Edited.{is_table_key}
use Rattle.edit_def.specs.Forms.{Form, begins, form_of, forms_of}
use Rattle.edit_def.specs.Kept.{AreTellable, Key, key_of, told_of}
use Rattle.edit_def.specs.Marks.{Marks}
use Rattle.edit_def.specs.Purses.{is_emptied}
use Rattle.record_edits.specs.Owners.{times_in}
use Rattle.record_edits.specs.Pending.{IsPending, Stepped}
use Rattle.record_edits.specs.Whole.{IsWhole}
use Rattle.record_edits.proofs.BlockEdits.{apart-from, attributes-block, edit-of, high-record, shape-block}
use Rattle.record_edits.proofs.ClauseEdits.{base-there, bases-edit}
use Rattle.record_edits.proofs.CostLaws.{emptied-still}
use Rattle.record_edits.proofs.FormEdits as forms
use Rattle.record_edits.proofs.OwnerEdits.{times-edit}
use Rattle.record_edits.proofs.RecordEdits.{none-same}
use Rattle.record_edits.proofs.RoomEdits.{used-kept}
use Rattle.record_edits.proofs.SystemKept.{KeepsSystem}
use Rattle.record_edits.proofs.WholeLaws.{whole-said}
use Rattle.file_edits.specs.Steps.{MovesAttribute}
use Rattle.file_edits.proofs.Frame.{clusters-stay, lists-kept, none, state, step}
use Rattle.file_edits.proofs.MoveKeeps.{KeepsBut-moved}
use Rattle.file_edits.proofs.RoomSteps.{Keeps-moved}

-- what the clause on limits asks, it asks of what a part says
limits-said : (f : ℕ) (a b : Part) → said_by b ≡ said_by a → IsInLimits f a → IsInLimits f b
limits-said f a b same h =
    let P : Said → Type 0 = λ s. s.kind ≡ DATA → IsFalse ((f == BAD_CLUSTERS) && ((s.kind == DATA) && bytes_eq s.name bad_name))
    → IfSome (content_extent s.content) (λ extent. extent.sizes.first ≡ 0 → extent.sizes.real ≤ 2 ^ 40) in
    subst P (sym same) h

-- where an attribute begins, its body tells
begins-same : (a b : Attribute) → b.body ≡ a.body → begins b ≡ begins a
begins-same a b body = ap (λ (x : Body). option_map_or (λ extent. extent.sizes.first == 0) (extent_of x) true) body

-- a header with whether it begins
record Begun : Type 0 where
  form : Form
  begins : Bool

abbrev begun : Attribute → Begun
begun a = record { form = form_of a; begins = begins a }

forms-begun : (xs : List Attribute) → map form_of (filter begins xs) ≡ map (λ (x : Begun). x.form) (filter (λ (x : Begun). x.begins)
    (map begun xs))
forms-begun xs = sym (again (filter begins xs)) ∙ ap (map (λ (x : Begun). x.form)) (sym (filter-map begun (λ (x : Begun). x.begins) xs))
  where
    again : (ys : List Attribute) → map (λ (x : Begun). x.form) (map begun ys) ≡ map form_of ys
    again [] = refl
    again (y ∷ ys) = ap (λ l. form_of y ∷ l) (again ys)

module _ (f : ℕ) (old new : VolumeView) (t : MovesAttribute f old new) where
  abbrev pub was : Part
  was = part_of t.from t.was

  abbrev pub now : Part
  now = part_of t.to t.now

  abbrev pub leaves : EditsAt (records_of old) (records_of t.mid) t.from (was ∷ []) []
  leaves = edit-of old t.mid t.from t.stored_from (t.was ∷ []) [] t.leaves

  abbrev pub comes : EditsAt (records_of t.mid) (records_of new) t.to [] (now ∷ [])
  comes = edit-of t.mid new t.to t.stored_to [] (t.now ∷ []) t.comes

  pub said : said_by now ≡ said_by was
  said =
      let content = ap content_of t.body in
      λ i. record { kind = t.kind i; name = t.name i; flags = t.flags i; content = content i }

  abbrev pub moves : MovesPart (records_of old) (records_of new) t.from t.to was now
  moves = record {
    apart = t.apart;
    between = records_of t.mid;
    leaves = leaves;
    comes = comes;
    same = said;
    file = t.file_to ∙ sym t.file_from;
  }

  layout : new.layout ≡ old.layout
  layout = t.comes.replaces.layout ∙ t.leaves.replaces.layout

  pub outside : (c : ℕ) → IsOutsideTable old.layout c → new.cluster c ≡ old.cluster c
  outside c out = t.comes.replaces.clusters c (subst (λ (l : TableLayout). IsOutsideTable l c) (sym t.leaves.replaces.layout) out)
      ∙ t.leaves.replaces.clusters c out

  high-from : 4 ≤ t.from
  high-from = high-record t.from f leaves.now_record
      (file_of-kept t.from leaves.was_record leaves.now_record leaves.header ∙ t.file_from) t.may t.right_from

  high-to : 4 ≤ t.to
  high-to = high-record t.to f comes.now_record
      (file_of-kept t.to comes.was_record comes.now_record comes.header ∙ t.file_to) t.may t.right_to

  not-from : (m : ℕ) → m < 4 → m ≢ t.from
  not-from m low same = absurd (omega (arith, low, same, high-from))

  not-to : (m : ℕ) → m < 4 → m ≢ t.to
  not-to m low same = absurd (omega (arith, low, same, high-to))

  pub unmoved : (g : ℕ) → f ≢ g → parts (records_of new) g ≡ parts (records_of old) g
  unmoved g other = parts-unmoved (records_of old) (records_of new) t.from t.to g was now moves (λ same. other (sym t.file_from ∙ same))

  pub system : KeepsSystem old new
  system = record {
    layout = layout;
    blocks = λ m low. t.comes.replaces.blocks m (not-to m low) ∙ t.leaves.replaces.blocks m (not-from m low);
    copies = λ m low. t.comes.replaces.copies m low (not-to m low) ∙ t.leaves.replaces.copies m low (not-from m low);
    parts_are = λ m low other. unmoved m (apart-from f m t.may low other);
  }

  used-same : (m : ℕ) → is_some (record_on new m) ≡ is_some (record_on old m)
  used-same m = used-kept (records_of t.mid) (records_of new) t.to [] (now ∷ []) comes m
      ∙ used-kept (records_of old) (records_of t.mid) t.from (was ∷ []) [] leaves m

  was-base : (m : ℕ) (r : Record) → record_on new m ≡ Some r → IsTrue (is_base r) → IsSomeAnd (record_on old m) (λ r. IsTrue (is_base r))
  was-base m r at base =
      base-kept (records_of old) (records_of t.mid) t.from m (was ∷ []) [] leaves
      (base-kept (records_of t.mid) (records_of new) t.to m [] (now ∷ []) comes (base-there (record_on new m) r at base))

  -- OWNERS
  times : (c : ℕ) → times_owned (records_of new) c ≡ times_owned (records_of old) c
  times c =
      let left = times-edit (records_of old) (records_of t.mid) t.from (was ∷ []) [] c leaves in
      let came = times-edit (records_of t.mid) (records_of new) t.to [] (now ∷ []) c comes in
      let same : times_in (now ∷ []) c ≡ times_in (was ∷ []) c =
      ap (λ content. times_in (record was { content = content } ∷ []) c) (ap content_of t.body) in
      omega (arith, left, came, same)

  -- LIMITS
  limits : ((m : ℕ) → MeetsLimits (records_of old) m) → (m : ℕ) → MeetsLimits (records_of new) m
  limits meets m = if-some (record_on new m) (λ r. IsTrue (is_base r) → All (IsInLimits m) (parts (records_of new) m)) (λ r at base.
      let before : All (IsInLimits m) (parts (records_of old) m) =
      of_base (All (IsInLimits m) (parts (records_of old) m)) (record_on old m) (was-base m r at base) (meets m) in
      elim (cases_eq f m) [
        | inr ne ↦ subst (All (IsInLimits m)) (sym (unmoved m ne)) before
        | inl own ↦ own-limits m own before
      ])
    where
      own-limits : (m : ℕ) → f ≡ m → All (IsInLimits m) (parts (records_of old) m) → All (IsInLimits m) (parts (records_of new) m)
      own-limits m own before =
          let r = parts-own_at (records_of old) (records_of t.mid) t.from m (was ∷ []) [] leaves (t.file_from ∙ own) in
          let s = parts-own_at (records_of t.mid) (records_of new) t.to m [] (now ∷ []) comes (t.file_to ∙ own) in
          let there : Contains (parts (records_of old) m) was = Replaces-stood _ _ (was ∷ []) [] was r (Contains-head was []) in
          All-from_Contains (IsInLimits m) (parts (records_of new) m) (λ part among. elim (Replaces-member _ _ _ _ part s among) [
            | inl stayed ↦ elim (Replaces-member _ _ _ _ part r stayed) [
              | inl stood ↦ All-contains (IsInLimits m) (parts (records_of old) m) part before stood
              | inr never ↦ absurd (Contains-nil part never)
            ]
            | inr came ↦ subst (IsInLimits m) (Contains-only now part came)
                (limits-said m was now said (All-contains (IsInLimits m) (parts (records_of old) m) was before there))
          ])

  -- HEADERS
  forms-kept : (g : ℕ) → SameItems (forms_of old g) (forms_of new g)
  forms-kept g = elim (cases_eq f g) [
    | inr ne ↦ SameItems-same _ _ (sym (ap (λ xs. map form_of (filter begins xs))
        (forms.other t.mid new t.to t.stored_to [] (t.now ∷ []) t.comes g (λ same. ne (sym t.file_to ∙ same))
        ∙ forms.other old t.mid t.from t.stored_from (t.was ∷ []) [] t.leaves g (λ same. ne (sym t.file_from ∙ same)))))
    | inl own ↦
        let r = forms.own old t.mid t.from t.stored_from (t.was ∷ []) [] t.leaves g (t.file_from ∙ own) in
        let s = forms.own t.mid new t.to t.stored_to [] (t.now ∷ []) t.comes g (t.file_to ∙ own) in
        let first = begins-same t.was t.now t.body in
        let same : begun t.now ≡ begun t.was = λ i. record { form = t.form i; begins = first i } in
        let items = SameItems-moved begun _ _ _ t.was t.now r s same in
        SameItems-trans _ _ _ (SameItems-same _ _ (forms-begun (forms.all_old old t.mid t.from t.stored_from (t.was ∷ []) [] t.leaves g)))
        (SameItems-trans _ _ _ (SameItems-map (λ (x : Begun). x.form) _ _ (SameItems-filter (λ (x : Begun). x.begins) _ _ items))
        (SameItems-same _ _ (sym (forms-begun (forms.all_new t.mid new t.to t.stored_to [] (t.now ∷ []) t.comes g)))))
  ]

  others : (m : ℕ) (r : Record) → record_on new m ≡ Some r → file_of m r ≢ f → record_on old m ≡ Some r
  others m r at other = sym (leaves.changes.others m not_from) ∙ there
    where
      own : (n : ℕ) (r s : Record) → m ≡ n → Some s ≡ Some r → file_of n s ≡ f → file_of m r ≡ f
      own n r s same e file = ap (λ k. file_of k r) same ∙ sym (ap (file_of n) (some_same e)) ∙ file

      not_to : m ≢ t.to
      not_to same = other (own t.to r comes.now_record same (sym comes.now_at ∙ sym (ap (record_on new) same) ∙ at)
          (file_of-kept t.to comes.was_record comes.now_record comes.header ∙ t.file_to))

      there : record_on t.mid m ≡ Some r
      there = sym (comes.changes.others m not_to) ∙ at

      not_from : m ≢ t.from
      not_from same = other (own t.from r leaves.now_record same (sym leaves.now_at ∙ sym (ap (record_on t.mid) same) ∙ there)
          (file_of-kept t.from leaves.was_record leaves.now_record leaves.header ∙ t.file_from))

  no-list : count_by is_list (was ∷ []) ≤ count_by is_list []
  no-list = let none = count-no is_list was [] (ne_eqb t.was.kind ATTRIBUTE_LIST t.plain) in omega (arith, none)

  -- EXTENTS: what the moved attribute says, and so all of the file's
  abbrev key : Key
  key = key_of f t.was.kind t.was.name

  said-own : (g : ℕ) → f ≡ g → SameItems (map said_by (parts (records_of old) g)) (map said_by (parts (records_of new) g))
  said-own g own = subst (λ g. SameItems (map said_by (parts (records_of old) g)) (map said_by (parts (records_of new) g)))
      (t.file_from ∙ own)
      (parts-moved (records_of old) (records_of new) t.from t.to was now moves)

  whole-moved : (other : Key) → other.file ≡ f → IsWhole old other → IsWhole new other
  whole-moved other own = whole-said old new other (parts_of-said other.kind other.name (parts (records_of old) other.file)
      (parts (records_of new) other.file) (said-own other.file (sym own))) layout

  step-moved : (lags : Key → Bool) (marks : Marks) → lags key ≡ false → IsPending f lags old marks
      → Stepped f lags none nothing old new marks marks
  step-moved lags marks whole before =
      step f lags old new marks marks system outside before nothing (t.comes.replaces.told ∙ t.leaves.replaces.told)
      (λ k. t.comes.replaces.rest k ∙ t.leaves.replaces.rest k)
      (KeepsBut-moved is_table_key old new t.from t.to was now before.attributes moves
      (subst (λ g. IsWhole old (key_of g t.was.kind t.was.name)) (sym t.file_from) (before.streams t.is_file key refl whole))
      (subst (λ g. AreTellable (told_of old g)) (sym t.file_from) t.tellable)
      (clusters-stay f lags old new marks marks system outside before))
      forms-kept
      (Keeps-moved old new t.from t.to was now (ap (λ (l : TableLayout). l.clusters) layout) (ap cluster_bytes layout) moves
      (emptied-still (records_of old) (records_of t.mid) t.from (was ∷ []) [] leaves no-list (omega arith))
      (λ emptied. absurd (both_ways (is_emptied (record_on t.mid t.to)) t.still emptied)))
      (state f lags old new marks marks system outside before
      (shape-block t.mid new t.to t.stored_to [] (t.now ∷ []) t.comes
      (shape-block old t.mid t.from t.stored_from (t.was ∷ []) [] t.leaves before.shape))
      (attributes-block t.mid new t.to t.stored_to [] (t.now ∷ []) t.comes t.right_to
      (attributes-block old t.mid t.from t.stored_from (t.was ∷ []) [] t.leaves t.right_from before.attributes))
      lists
      (λ m ne. subst (λ (l : TableLayout). MeetsExtents (records_of new) (cluster_bytes l) m) (sym layout)
      (MeetsExtents-moved (records_of old) (records_of new) (cluster_bytes old.layout) t.from t.to m was now moves (before.extents m ne)))
      (λ is other own free. whole-moved other own (before.streams t.is_file other own free))
      times (limits before.limits)
      (bases-edit (records_of t.mid) (records_of new) t.to [] (now ∷ []) comes
      (bases-edit (records_of old) (records_of t.mid) t.from (was ∷ []) [] leaves before.bases))
      refl refl
      (λ m low lt. before.right.used m low (subst (λ (l : TableLayout). m < l.count) layout lt) ∙ ap Some (sym (used-same m))))
      (λ m low free. none-same (record_on new m) (record_on old m) (used-same m) free)
      others
    where
      lists : (m : ℕ) → m ≢ f → MeetsLists new m
      lists m ne = if-some (record_on new m) (λ r. IsTrue (is_base r) → HasRightList new m (parts (records_of new) m)) (λ r at base.
          HasRightList-unmoved old new t.from t.to m was now moves (λ z. ne (sym z ∙ t.file_from)) layout
          (lists-kept f lags old new marks marks system outside before m)
          (of_base (HasRightList old m (parts (records_of old) m)) (record_on old m) (was-base m r at base) (before.lists m ne)))

pub stepped-moved : (f : ℕ) (lags : Key → Bool) (old new : VolumeView) (marks : Marks) → (t : MovesAttribute f old new)
    → lags (key_of f t.was.kind t.was.name) ≡ false → IsPending f lags old marks → Stepped f lags none nothing old new marks marks
stepped-moved f lags old new marks t = step-moved f old new t lags marks
