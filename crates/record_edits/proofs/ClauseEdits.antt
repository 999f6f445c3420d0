-- THE CLAUSES after an edit of one record.
use Rattle.std.proofs.Common.{◌≡◌, ◌≢◌, ◌<◌, ◌≤◌, ◌==◌, ℕ, true, false, List, [], filter, Option, Some, None}
use Rattle.std.proofs.Common.{sym, ap, subst, inl, inr, ◌∙◌, arith}
use Rattle.std.specs.List.{Contains}
use Rattle.std.specs.Prelude.{All, IfSome, IsSomeAnd, IsTrue, is_none}
use Rattle.std.proofs.lemmas.Bool.{and_from, cases_eq, eq-eqb, leb-true}
use Rattle.std.proofs.lemmas.List.{length-map, nil_from_length}
use Rattle.std.proofs.lemmas.List.Elements.{All-contains}
use Rattle.std.proofs.lemmas.Slice.Eq.{bytes_eq-Decides}
use Rattle.ntfs_def.specs.Attribute.{Attribute, attributes}
use Rattle.ntfs_def.specs.Fixup.{opened_of}
use Rattle.ntfs_def.specs.Record.{Reference}
use Rattle.ntfs_def.specs.declared.records.TheConstants.{ROOT, SECURE}
use Rattle.list_laws.proofs.MemberLaws.{All-from_Contains, Contains-from_map}
use Rattle.list_laws.proofs.OptionLaws.{if-some}
use Rattle.list_laws.proofs.ReplacesLaws.{Replaces-filter, Replaces-itself, Replaces-member}
use Rattle.volume_def.specs.AttributesClause.{MeetsAttributes}
use Rattle.volume_def.specs.Edits.{EditsAt}
use Rattle.volume_def.specs.ExtentsClause.{MeetsExtents}
use Rattle.volume_def.specs.Files.{Part, Record, Records, file_of, is_base, is_of, part_of, parts, parts_at}
use Rattle.volume_def.specs.Files.{record_on, records_of}
use Rattle.volume_def.specs.KeptList.{KeepsList}
use Rattle.volume_def.specs.LimitsClause.{IsInLimits, MeetsLimits}
use Rattle.volume_def.specs.ListsClause.{HasRightList, MeetsLists}
use Rattle.volume_def.specs.ReferencesClause.{NamesBase}
use Rattle.volume_def.specs.ShapeClause.{MeetsShape}
use Rattle.volume_def.specs.Table.{TableLayout, cluster_bytes}
use Rattle.volume_def.specs.View.{VolumeView}
use Rattle.volume_def.proofs.ExtentsClauseLaws.{MeetsExtents-other, base-kept}
use Rattle.volume_def.proofs.OtherListLaws.{HasRightList-other}
use Rattle.volume_def.proofs.ReadableLaws.{of_base}
use Rattle.volume_def.proofs.RecordLaws.{file_of-kept, parts-other, parts-own_at}
use Rattle.edit_def.specs.Edited.{is_bare}
use Rattle.edit_def.specs.Kept.{Key, key_of, same_key}
use Rattle.edit_def.specs.Marks.{Marks}
use Rattle.edit_def.specs.Names.{HasRightBases}
use Rattle.record_edits.specs.RecordEdit.{AllHave, EditsPart, HasKey, parts_made}
use Rattle.record_edits.proofs.BlockEdits.{apart-from, attributes-block, edit-of, high-record, now-at, shape-block}
use Rattle.record_edits.proofs.PartEdits.{AreNamed, others-none}

pub base-there : (o : Option Record) (r : Record) → o ≡ Some r → IsTrue (is_base r) → IsSomeAnd o (λ r. IsTrue (is_base r))
base-there o r e b = subst (λ o. IsSomeAnd o (λ r. IsTrue (is_base r))) (sym e) b

abbrev HasRightBase : Records → Record → Type 0
HasRightBase records r = IfSome r.header.base (NamesBase records)

-- OF EXTENSION RECORDS: each names its base, which stays one.
pub bases-edit : (old new : Records) (n : ℕ) (was now : List Part) → EditsAt old new n was now → HasRightBases old → HasRightBases new
bases-edit old new n was now e bases m = elim (cases_eq m n) [
  | inl same ↦ subst (λ o. IfSome o (HasRightBase new)) (sym (ap new.record_at same ∙ e.now_at))
      (subst (λ (base : Option Reference). IfSome base (NamesBase new)) (sym e.header.base)
      (each e.was_record.header.base (subst (λ o. IfSome o (λ r. IfSome r.header.base (NamesBase old))) (ap old.record_at same
      ∙ e.was_at) (bases m))))
  | inr ne ↦ subst (λ o. IfSome o (HasRightBase new)) (sym (e.changes.others m ne)) (of (old.record_at m) (bases m))
]
  where
    named : (reference : Reference) → NamesBase old reference → NamesBase new reference
    named reference h = elim (cases_eq reference.number n) [
      | inl same ↦
          let was_is = subst (λ o. IsSomeAnd o (λ r. IsTrue (is_base r) × (r.header.sequence ≡ reference.sequence)))
          (ap old.record_at same ∙ e.was_at) h in
          subst (λ o. IsSomeAnd o (λ r. IsTrue (is_base r) × (r.header.sequence ≡ reference.sequence))) (sym (ap new.record_at same
          ∙ e.now_at))
          (subst (λ (b : Option Reference). IsTrue (is_none b)) (sym e.header.base) was_is.0, e.header.sequence ∙ was_is.1)
      | inr ne ↦ subst (λ o. IsSomeAnd o (λ r. IsTrue (is_base r) × (r.header.sequence ≡ reference.sequence)))
          (sym (e.changes.others reference.number ne)) h
    ]

    each : (base : Option Reference) → IfSome base (NamesBase old) → IfSome base (NamesBase new)
    each None h = h
    each (Some reference) h = named reference h

    of : (o : Option Record) → IfSome o (λ r. IfSome r.header.base (NamesBase old)) → IfSome o (HasRightBase new)
    of None h = h
    of (Some r) h = each r.header.base h

module _ (key : Key) (old new : VolumeView) (before after : Marks) (e : EditsPart key old new before after) where
  abbrev pub was : List Part
  was = parts_made e.n e.was

  abbrev pub now : List Part
  now = parts_made e.n e.now

  abbrev pub edit : EditsAt (records_of old) (records_of new) e.n was now
  edit = edit-of old new e.n e.stored e.was e.now e.block

  pub layout : new.layout ≡ old.layout
  layout = e.block.replaces.layout

  pub same-file : file_of e.n edit.now_record ≡ file_of e.n edit.was_record
  same-file = file_of-kept e.n edit.was_record edit.now_record edit.header

  -- a file of the system other than the root
  pub apart : (m : ℕ) → m < SECURE → m ≢ ROOT → file_of e.n edit.was_record ≢ m
  apart m low other same = apart-from key.file m e.may low other (sym e.file ∙ same)

  -- record n is none of those that the mirror copies
  pub high : 4 ≤ e.n
  high = high-record e.n key.file edit.now_record (same-file ∙ e.file) e.may e.right

  pub not-high : (m : ℕ) → m < 4 → m ≢ e.n
  not-high m low same = absurd (omega (arith, low, same, high))

  -- the parts are of the attribute
  named : (xs : List Attribute) → AllHave key xs → AreNamed (same_key key) (file_of e.n edit.was_record) (parts_made e.n xs)
  named xs have part c =
      let from = Contains-from_map (part_of e.n) xs part c in
      let its = All-contains (HasKey key) xs from.0 have from.1 in
      let kind : part.kind ≡ key.kind = sym (ap (λ (p : Part). p.kind) from.2) ∙ its.kind in
      let name : part.name ≡ key.name = sym (ap (λ (p : Part). p.name) from.2) ∙ its.name in
      and_from (key.kind == part.kind) _ (eq-eqb key.kind part.kind (sym kind))
      (and_from (key.file == file_of e.n edit.was_record) _ (eq-eqb key.file (file_of e.n edit.was_record) (sym e.file))
      ((bytes_eq-Decides key.name part.name).1 (sym name)))

  pub was-named : AreNamed (same_key key) (file_of e.n edit.was_record) was
  was-named = named e.was e.was_of

  pub now-named : AreNamed (same_key key) (file_of e.n edit.was_record) now
  now-named = named e.now e.now_of

  -- SHAPE AND ATTRIBUTES
  pub shape-edit : ((m : ℕ) → MeetsShape old m) → (m : ℕ) → MeetsShape new m
  shape-edit = shape-block old new e.n e.stored e.was e.now e.block

  pub attributes-edit : ((m : ℕ) → MeetsAttributes (records_of old) m) → (m : ℕ) → MeetsAttributes (records_of new) m
  attributes-edit = attributes-block old new e.n e.stored e.was e.now e.block e.right

  -- LISTS of all other files
  pub lists-edit : ((f : ℕ) → KeepsList old new (parts (records_of old) f)) → ((m : ℕ) → m ≢ key.file → MeetsLists old m)
      → (m : ℕ) → m ≢ key.file → MeetsLists new m
  lists-edit kept lists m other =
      if-some (record_on new m) (λ r. IsTrue (is_base r) → HasRightList new m (parts (records_of new) m)) (λ r at base.
      HasRightList-other old new e.n m was now edit (λ z. other (sym z ∙ e.file)) layout (kept m)
      (of_base (HasRightList old m (parts (records_of old) m)) (record_on old m)
      (base-kept (records_of old) (records_of new) e.n m was now edit (base-there (record_on new m) r at base)) (lists m other)))

  -- EXTENTS: other attributes of the file have the parts that they had ..
  pub parts-differ : (other : Key) → other.file ≡ key.file → same_key key other ≡ false
      → parts_at new other.file other.kind other.name ≡ parts_at old other.file other.kind other.name
  parts-differ other own differs =
      let r = parts-own_at (records_of old) (records_of new) e.n other.file was now edit (e.file ∙ sym own) in
      let of_was = λ (p : Part) (c : Contains was p). subst (λ f. same_key key (key_of f p.kind p.name) ≡ true) (e.file ∙ sym own)
      (was-named p c) in
      let of_now = λ (p : Part) (c : Contains now p). subst (λ f. same_key key (key_of f p.kind p.name) ≡ true) (e.file ∙ sym own)
      (now-named p c) in
      Replaces-itself _ _ _ _
      (others-none (same_key key) other.file other.kind other.name differs was of_was
      ∙ sym (others-none (same_key key) other.file other.kind other.name differs now of_now))
      (Replaces-filter (is_of other.kind other.name) _ _ _ _ r)

  -- .. and all other files meet the clause.
  pub extents-other : (m : ℕ) → m ≢ key.file → MeetsExtents (records_of old) (cluster_bytes old.layout) m
      → MeetsExtents (records_of new) (cluster_bytes new.layout) m
  extents-other m ne meets = subst (λ (l : TableLayout). MeetsExtents (records_of new) (cluster_bytes l) m) (sym layout)
      (MeetsExtents-other (records_of old) (records_of new) (cluster_bytes old.layout) e.n m was now edit (λ z. ne (sym z ∙ e.file)) meets)

  -- LIMITS of sizes
  pub limits-edit : ((m : ℕ) → MeetsLimits (records_of old) m) → (m : ℕ) → MeetsLimits (records_of new) m
  limits-edit meets m =
      if-some (record_on new m) (λ r. IsTrue (is_base r) → All (IsInLimits m) (parts (records_of new) m)) (λ r at base.
      let there = base-kept (records_of old) (records_of new) e.n m was now edit (base-there (record_on new m) r at base) in
      let before : All (IsInLimits m) (parts (records_of old) m) =
      of_base (All (IsInLimits m) (parts (records_of old) m)) (record_on old m) there (meets m) in
      elim (cases_eq key.file m) [
        | inr ne ↦ subst (All (IsInLimits m)) (sym (parts-other (records_of old) (records_of new) e.n m was now edit (λ z. ne
            (sym e.file ∙ z)))) before
        | inl own ↦ All-from_Contains (IsInLimits m) (parts (records_of new) m) (λ part among.
            elim (Replaces-member _ _ _ _ part (parts-own_at (records_of old) (records_of new) e.n m was now edit (e.file ∙ own)) among) [
              | inl there ↦ All-contains (IsInLimits m) (parts (records_of old) m) part before there
              | inr came ↦ subst (λ f. IsInLimits f part) own (All-contains (IsInLimits key.file) now part e.limits came)
            ])
      ])

  -- A RECORD THAT HAS AN ATTRIBUTE still did not come to be bare.
  pub bare-edit : attributes (opened_of e.stored) ≢ [] → (m : ℕ) → is_bare (record_on new m) ≡ true → is_bare (record_on old m) ≡ true
  bare-edit held m bare = elim (cases_eq m e.n) [
    | inr ne ↦ sym (ap is_bare (edit.changes.others m ne)) ∙ bare
    | inl same ↦
        let its = leb-true _ 0 (sym (ap (λ k. is_bare (record_on new k)) same ∙ ap is_bare
        (now-at old new e.n e.stored e.was e.now e.block)) ∙ bare) in
        absurd (held (nil_from_length (attributes (opened_of e.stored))
        (omega (arith, its, length-map (attributes (opened_of e.stored)) (part_of e.n)))))
  ]

  -- THE PARTS OF A FILE of the system other than the root
  pub system-parts : (m : ℕ) → m < SECURE → m ≢ ROOT → parts (records_of new) m ≡ parts (records_of old) m
  system-parts m low other = parts-other (records_of old) (records_of new) e.n m was now edit (apart m low other)

  pub system-at : (m kind : ℕ) (name : List ℕ) → m < SECURE → m ≢ ROOT → parts_at new m kind name ≡ parts_at old m kind name
  system-at m kind name low other = ap (filter (is_of kind name)) (system-parts m low other)
