-- THE CLAUSE ON ATTRIBUTES of a record of which one attribute came, went, or was put in another's place.
use Rattle.std.proofs.Common.{◌≡◌, ◌≢◌, ◌⊎◌, ◌+◌, ◌≤◌, ℕ, zero, suc, Bool, false, cond, List, [], ◌∷◌, ◌++◌, length, map}
use Rattle.std.proofs.Common.{refl, sym, ap, subst, inl, inr, ◌∙◌, arith}
use Rattle.std.specs.Prelude.{◌==◌, All, IfSome, IsSomeAnd, IsSome, IsTrue, count_by, is_none, slice_get}
use Rattle.std.specs.List.{Contains, insert}
use Rattle.std.specs.Option.{option_map}
use Rattle.std.proofs.Common.{length-append, length-take}
use Rattle.std.proofs.lemmas.List.{length-replicate}
use Rattle.std.proofs.lemmas.Bool.{cases_eq, ne_eqb}
use Rattle.std.proofs.lemmas.List.Elements.{All-contains}
use Rattle.std.proofs.lemmas.List.Sums.{count_by-le-length}
use Rattle.ntfs_def.specs.Attribute.{Attribute, Body, NonResident, Resident, attribute_at, attributes, value_of}
use Rattle.attr_view.specs.Values.{with_length}
use Rattle.ntfs_def.specs.Fixup.{opened_of}
use Rattle.ntfs_def.specs.declared.kinds.TheConstants.{FILE_NAME, STANDARD_INFORMATION}
use Rattle.list_laws.specs.Replaces.{Replaces}
use Rattle.list_laws.proofs.FindLaws.{count-cons, count-no}
use Rattle.list_laws.proofs.MemberLaws.{All-from_Contains, Contains-head}
use Rattle.list_laws.proofs.PieceLaws.{All-one}
use Rattle.list_laws.proofs.ReplacesLaws.{Replaces-count, Replaces-map, Replaces-member, Replaces-stood}
use Rattle.volume_def.specs.AttributesClause.{AscendsFrom, IsRightPart, IsRightRecord, IsStandard, is_kept_resident, is_standard}
use Rattle.volume_def.specs.AttributesClause.{times_id}
use Rattle.volume_def.specs.Edits.{KeepsRecordHeader}
use Rattle.volume_def.specs.Files.{Part, Record, content_of, content_value, is_base, part_of, record_of}
use Rattle.volume_def.specs.View.{VolumeView}
use Rattle.volume_edits.specs.Rewritten.{EditsBlock, RewritesRecord}
use Rattle.file_record.specs.Attributes.{ChangesValue, InsertsAttribute, ResizesAttribute, opened_record}
use Rattle.record_calls.specs.Edits.{record_there}
use Rattle.record_calls.specs.Rising.{RisesAt}
use Rattle.record_calls.proofs.Values.{body-value, value-mapped}

-- TYPES RISE STILL
ascends-below : (low high : ℕ) (xs : List Part) → low ≤ high → AscendsFrom high xs → AscendsFrom low xs
ascends-below low high [] le h = tt
ascends-below low high (x ∷ xs) le h = let first = h.0 in (omega arith, h.1)

ascends-gone : (was : Part) (before behind : List Part) (least : ℕ) → AscendsFrom least (before ++ (was ∷ behind))
    → AscendsFrom least (before ++ behind)
ascends-gone was [] behind least h = ascends-below least was.kind behind h.0 h.1
ascends-gone was (x ∷ before) behind least h = (h.0, ascends-gone was before behind x.kind h.1)

ascends-put : (was now : Part) (before behind : List Part) (least : ℕ) → now.kind ≡ was.kind
    → AscendsFrom least (before ++ (was ∷ behind)) → AscendsFrom least (before ++ (now ∷ behind))
ascends-put was now [] behind least same h = subst (λ k. (least ≤ k) × AscendsFrom k behind) (sym same) h
ascends-put was now (x ∷ before) behind least same h = (h.0, ascends-put was now before behind x.kind same h.1)

ascends-come : (n : ℕ) (x : Attribute) (least i : ℕ) (xs : List Attribute) → AscendsFrom least (map (part_of n) xs)
    → (i ≡ 0 → least ≤ x.kind) → i ≤ length xs → ((j : ℕ) → j + 1 ≡ i → IfSome (slice_get xs j) (λ a. a.kind ≤ x.kind))
    → IfSome (slice_get xs i) (λ a. x.kind ≤ a.kind) → AscendsFrom least (map (part_of n) (insert xs i x))
ascends-come n x least zero [] h low inside before behind = (low refl, tt)
ascends-come n x least zero (y ∷ ys) h low inside before behind = (low refl, (behind, h.1))
ascends-come n x least (suc i) [] h low inside before behind = absurd (omega arith)
ascends-come n x least (suc i) (y ∷ ys) h low inside before behind =
    (h.0, ascends-come n x y.kind i ys h.1 (λ z. before 0 (omega arith)) (omega arith) (λ j e. before (suc j) (omega arith)) behind)

-- COUNTS of one part
one-at-most : (p : Part → Bool) (x : Part) → count_by p (x ∷ []) ≤ 1
one-at-most p x = count_by-le-length p (x ∷ [])

not-counted : (p : Part → Bool) (x : Part) → p x ≡ false → count_by p (x ∷ []) ≡ 0
not-counted p x fails = count-no p x [] fails

counted-same : (p : Part → Bool) (x y : Part) → p y ≡ p x → count_by p (y ∷ []) ≡ count_by p (x ∷ [])
counted-same p x y same = count-cons p y [] ∙ ap (λ b. cond b 1 0 + 0) same ∙ sym (count-cons p x [])

-- ids differ still where one comes that no other has
ids-come : (xs ys : List Part) (now : Part) → Replaces xs ys [] (now ∷ []) → ((id : ℕ) → times_id id xs ≤ 1) → times_id now.id xs ≡ 0
    → (id : ℕ) → times_id id ys ≤ 1
ids-come xs ys now r few new id =
    let c = Replaces-count (λ part. part.id == id) xs ys [] (now ∷ []) r in
    elim (cases_eq now.id id) [
      | inl same ↦
          let none : times_id id xs ≡ 0 = subst (λ id. times_id id xs ≡ 0) same new in
          omega (arith, c, none, one-at-most (λ part. part.id == id) now)
      | inr ne ↦ omega (arith, c, few id, not-counted (λ part. part.id == id) now (ne_eqb now.id id ne))
    ]

ids-go : (xs ys was : List Part) → Replaces xs ys was [] → ((id : ℕ) → times_id id xs ≤ 1) → (id : ℕ) → times_id id ys ≤ 1
ids-go xs ys was r few id = let c = Replaces-count (λ part. part.id == id) xs ys was [] r in omega (arith, c, few id)

ids-put : (xs ys : List Part) (was now : Part) → Replaces xs ys (was ∷ []) (now ∷ []) → ((id : ℕ) → times_id id xs ≤ 1)
    → (now.id ≡ was.id) ⊎ (times_id now.id xs ≡ 0) → (id : ℕ) → times_id id ys ≤ 1
ids-put xs ys was now r few which id =
    let c = Replaces-count (λ part. part.id == id) xs ys (was ∷ []) (now ∷ []) r in
    elim which [
      | inl same ↦
          let alike = counted-same (λ part. part.id == id) was now (ap (λ k. k == id) same) in
          omega (arith, c, alike, few id)
      | inr new ↦ elim (cases_eq now.id id) [
        | inl same ↦
            let none : times_id id xs ≡ 0 = subst (λ id. times_id id xs ≡ 0) same new in
            omega (arith, c, none, one-at-most (λ part. part.id == id) now)
        | inr ne ↦ omega (arith, c, few id, not-counted (λ part. part.id == id) now (ne_eqb now.id id ne))
      ]
    ]

All-none : (P : Part → Type 0) → All P []
All-none P k d lt = absurd (omega arith)

-- A RECORD WHOSE PARTS CHANGED in one place, under the same header
module _ (n : ℕ) (old new : Record) (was now : List Part) (h : KeepsRecordHeader old.header new.header)
    (r : Replaces old.parts new.parts was now) (right : IsRightRecord n old) where
  back : IsTrue (is_base new) → IsTrue (is_base old)
  back b = sym (ap is_none h.base) ∙ b

  all-new : (P : Part → Type 0) → All P old.parts → All P now → All P new.parts
  all-new P a b = All-from_Contains P new.parts (λ part c. elim (Replaces-member old.parts new.parts was now part r c) [
    | inl stood ↦ All-contains P old.parts part a stood
    | inr came ↦ All-contains P now part b came
  ])

  right-from : AscendsFrom 0 new.parts → ((id : ℕ) → times_id id new.parts ≤ 1)
      → (IsTrue (is_base old) → count_by is_standard now ≡ count_by is_standard was)
      → (IsTrue (is_base old) → All (λ part. part.kind ≡ STANDARD_INFORMATION → IsStandard part) now) → All IsRightPart now
      → IsRightRecord n new
  right-from rising ids standards standard each = record {
    system = λ low. ap is_none h.base ∙ right.system low;
    rising = rising;
    ids = ids;
    one_standard = λ b.
        let c = Replaces-count is_standard old.parts new.parts was now r in
        let one = right.one_standard (back b) in
        let same = standards (back b) in
        omega arith;
    standard = λ b. all-new (λ part. part.kind ≡ STANDARD_INFORMATION → IsStandard part) (right.standard (back b)) (standard (back b));
    each = all-new IsRightPart right.each each;
  }

-- ONE CALL on a block
module _ (old new : VolumeView) (n : ℕ) where
  abbrev before : List Part
  before = (record_there old n).parts

  no-second : (part : Part) → (IsTrue (is_base (record_there old n)) → part.kind ≢ STANDARD_INFORMATION)
      → IsTrue (is_base (record_there old n)) → count_by is_standard (part ∷ []) ≡ 0
  no-second part other b = not-counted is_standard part (ne_eqb part.kind STANDARD_INFORMATION (other b))

  -- an attribute comes
  pub right-come : (i : ℕ) (attr : List ℕ) → (e : InsertsAttribute old new n i attr) → IsRightRecord n (record_there old n)
      → RisesAt (attributes (opened_record old n)) i (attribute_at attr 0).kind
      → times_id (attribute_at attr 0).id (record_there old n).parts ≡ 0 → IsRightPart (part_of n (attribute_at attr 0))
      → (IsTrue (is_base (record_there old n)) → (attribute_at attr 0).kind ≢ STANDARD_INFORMATION)
      → IsRightRecord n (record_of n (opened_of e.stored))
  right-come i attr e right rises new_id part other =
      let now : Part = part_of n (attribute_at attr 0) in
      let r = Replaces-map (part_of n) _ _ [] (attribute_at attr 0 ∷ []) e.edits.attributes_are in
      let after : List Part = (record_of n (opened_of e.stored)).parts in
      right-from n (record_there old n) (record_of n (opened_of e.stored)) [] (now ∷ []) e.edits.header r right
      (subst (λ all. AscendsFrom 0 (map (part_of n) all)) (sym e.attributes_are)
      (ascends-come n (attribute_at attr 0) 0 i (attributes (opened_record old n)) right.rising (λ z. omega arith) rises.inside rises.before
      rises.behind))
      (ids-come before after now r right.ids new_id) (λ b. no-second now other b)
      (λ b. All-one (λ (part : Part). part.kind ≡ STANDARD_INFORMATION → IsStandard part) now (λ is. absurd (other b is)))
      (All-one IsRightPart now part)

  -- one goes
  pub right-go : (stored : List ℕ) (was : Attribute) → EditsBlock old new n stored (was ∷ []) [] → IsRightRecord n (record_there old n)
      → (IsTrue (is_base (record_there old n)) → was.kind ≢ STANDARD_INFORMATION) → IsRightRecord n (record_of n (opened_of stored))
  right-go stored was e right other =
      let gone : Part = part_of n was in
      let r = Replaces-map (part_of n) _ _ (was ∷ []) [] e.attributes_are in
      let after : List Part = (record_of n (opened_of stored)).parts in
      right-from n (record_there old n) (record_of n (opened_of stored)) (gone ∷ []) [] e.header r right
      (subst (AscendsFrom 0) (sym r.new_is) (ascends-gone gone r.before r.after 0 (subst (AscendsFrom 0) r.old_is right.rising)))
      (ids-go before after (gone ∷ []) r right.ids) (λ b. sym (no-second gone other b))
      (λ b. All-none (λ (part : Part). part.kind ≡ STANDARD_INFORMATION → IsStandard part)) (All-none IsRightPart)

  -- one is put in the place of another
  pub right-put : (stored : List ℕ) (was now : Attribute) → RewritesRecord old new n stored was now → IsRightRecord n (record_there old n)
      → now.kind ≡ was.kind → (now.id ≡ was.id) ⊎ (times_id now.id (record_there old n).parts ≡ 0) → IsRightPart (part_of n now)
      → (IsTrue (is_base (record_there old n)) → now.kind ≡ STANDARD_INFORMATION → IsStandard (part_of n now))
      → IsRightRecord n (record_of n (opened_of stored))
  right-put stored was now e right kind which part standard =
      let gone : Part = part_of n was in
      let come : Part = part_of n now in
      let r = Replaces-map (part_of n) _ _ (was ∷ []) (now ∷ []) e.attributes_are in
      let after : List Part = (record_of n (opened_of stored)).parts in
      right-from n (record_there old n) (record_of n (opened_of stored)) (gone ∷ []) (come ∷ []) e.header r right
      (subst (AscendsFrom 0) (sym r.new_is) (ascends-put gone come r.before r.after 0 kind (subst (AscendsFrom 0) r.old_is right.rising)))
      (ids-put before after gone come r right.ids which)
      (λ b. counted-same is_standard gone come (ap (λ k. k == STANDARD_INFORMATION) kind))
      (λ b. All-one (λ (part : Part). part.kind ≡ STANDARD_INFORMATION → IsStandard part) come (standard b)) (All-one IsRightPart come part)

-- a value that is given this length has it
length-with : (len : ℕ) (value : List ℕ) → length (with_length len value) ≡ len
length-with len value = simp (length-append, length-take, length-replicate) (omega arith)

changed-long : (was now : Body) (change : List ℕ → List ℕ) → value_of now ≡ option_map change (value_of was)
    → IsSomeAnd (content_value (content_of was)) (λ value. (length value ≡ 48) ⊎ (length value ≡ 72))
    → ((value : List ℕ) → (length (change value) ≡ 48) ⊎ (length (change value) ≡ 72))
    → IsSomeAnd (content_value (content_of now)) (λ value. (length value ≡ 48) ⊎ (length value ≡ 72))
changed-long (Resident value) now change e is which =
    subst (λ o. IsSomeAnd o (λ value. (length value ≡ 48) ⊎ (length value ≡ 72))) (sym (body-value now ∙ e)) (which value)
changed-long (NonResident extent text) now change e is which = absurd is

-- A VALUE was changed: no name of a file, and a $STANDARD_INFORMATION so that it has one of its two lengths
pub right-change : (old new : VolumeView) (n i : ℕ) (change : List ℕ → List ℕ) → (e : ChangesValue old new n i change)
    → IsRightRecord n (record_there old n) → e.was.kind ≢ FILE_NAME
    → (IsTrue (is_base (record_there old n)) → e.was.kind ≡ STANDARD_INFORMATION
    → (value : List ℕ) → (length (change value) ≡ 48) ⊎ (length (change value) ≡ 72))
    → IsRightRecord n (record_of n (opened_of e.stored))
right-change old new n i change e right other long =
    right-put old new n e.stored e.was e.now e.edits right e.kind (inl e.id) (record {
      resident = λ kept. subst IsSome (sym (body-value e.now.body))
          (value-mapped e.was.body e.now.body change e.value (subst IsSome (body-value e.was.body)
          (was_right.resident (ap is_kept_resident (sym e.kind) ∙ kept))));
      name = λ k. absurd (other (sym e.kind ∙ k));
    }) (λ b k.
    let standard : IsStandard (part_of n e.was) = All-contains (λ (part : Part). part.kind ≡ STANDARD_INFORMATION → IsStandard part)
    (record_there old n).parts (part_of n e.was) (right.standard b) stood (sym e.kind ∙ k) in
    (e.name ∙ standard.0, changed-long e.was.body e.now.body change e.value standard.1 (long b (sym e.kind ∙ k))))
  where
    stood : Contains (record_there old n).parts (part_of n e.was)
    stood = Replaces-stood _ _ _ _ (part_of n e.was)
        (Replaces-map (part_of n) _ _ (e.was ∷ []) (e.now ∷ []) e.edits.attributes_are) (Contains-head (part_of n e.was) [])

    was_right : IsRightPart (part_of n e.was)
    was_right = All-contains IsRightPart (record_there old n).parts (part_of n e.was) right.each stood

-- .. as where it has another length
pub right-resize : (old new : VolumeView) (n i len : ℕ) → (e : ResizesAttribute old new n i len) → IsRightRecord n (record_there old n)
    → e.was.kind ≢ FILE_NAME
    → (IsTrue (is_base (record_there old n)) → e.was.kind ≡ STANDARD_INFORMATION → (len ≡ 48) ⊎ (len ≡ 72))
    → IsRightRecord n (record_of n (opened_of e.stored))
right-resize old new n i len e right other long =
    right-change old new n i (with_length len) e right other (λ b k value. elim (long b k) [
      | inl a ↦ inl (length-with len value ∙ a)
      | inr b ↦ inr (length-with len value ∙ b)
    ])
