-- THE EDIT OF ONE BLOCK is one of the records, and leaves all clusters that a part has but those of the table and its mirror.
use Rattle.std.proofs.Common.{◌≡◌, ◌<◌, ◌≤◌, ◌==◌, ◌&&◌, ◌||◌, ◌≢◌, ℕ, Bool, true, false, cond, List, [], ◌∷◌, length, Option}
use Rattle.std.proofs.Common.{Some, None}
use Rattle.std.proofs.Common.{refl, sym, ap, subst, inl, inr, ◌∙◌, arith}
use Rattle.std.proofs.lemmas.Bool.{and_from, and_parts, cases_Bool, cases_eq, cases_lt, eq-eqb, eqb-true, lt-ltb, or_parts}
use Rattle.std.proofs.lemmas.Slice.Eq.{bytes_eq-Decides}
use Rattle.std.specs.List.{Contains}
use Rattle.std.specs.Prelude.{IfSome, IsTrue, is_none, option_map, unwrap_or}
use Rattle.std.specs.Str.{bytes_eq}
use Rattle.ntfs_def.specs.Attribute.{Attribute}
use Rattle.ntfs_def.specs.Fixup.{opened_of}
use Rattle.ntfs_def.specs.Record.{Reference, is_in_use}
use Rattle.ntfs_def.specs.declared.kinds.TheConstants.{ATTRIBUTE_LIST, DATA}
use Rattle.ntfs_def.specs.declared.records.TheConstants.{MFT, MFT_MIRROR, ROOT, SECURE}
use Rattle.list_laws.proofs.MemberLaws.{All-from_Contains, Contains-from_filter, Contains-only}
use Rattle.list_laws.proofs.ReplacesLaws.{Replaces-map}
use Rattle.volume_def.specs.AttributesClause.{IsRightRecord, MeetsAttributes}
use Rattle.volume_def.specs.Coverage.{IsOutsideTable, times_covered}
use Rattle.volume_def.specs.Edits.{EditsAt}
use Rattle.volume_def.specs.Files.{Part, Record, file_of, is_base, is_of, part_of, part_runs, parts, parts_at, record_in, record_of}
use Rattle.volume_def.specs.Files.{record_on, records_of}
use Rattle.volume_def.specs.KeptList.{KeepsList}
use Rattle.volume_def.specs.ListsClause.{is_list}
use Rattle.volume_def.specs.ShapeClause.{MeetsShape}
use Rattle.volume_def.specs.Table.{IsWellFormed, TableLayout}
use Rattle.volume_def.specs.Values.{KeepsClusters}
use Rattle.volume_def.specs.View.{VolumeView}
use Rattle.volume_def.proofs.ValueLaws.{spot_at-owned}
use Rattle.volume_def.proofs.ViewLaws.{ChangesAt-block, record_at-written}
use Rattle.volume_edits.specs.Owners.{HasOwners}
use Rattle.volume_edits.proofs.OwnerLaws.{lies-outside}
use Rattle.edit_def.specs.Edited.{is_table_key}
use Rattle.edit_def.specs.Kept.{key_of}
use Rattle.edit_def.specs.Places.{KeepsMirrorEnd}
use Rattle.record_edits.specs.Between.{MayBeEdited}
use Rattle.record_edits.specs.RecordEdit.{parts_made}
use Rattle.volume_edits.specs.Rewritten.{EditsBlock}
use Rattle.record_edits.proofs.TableOwners.{mirror-outside, other-outside}

in-use : (n : ℕ) (stored : List ℕ) → IsTrue (is_in_use stored) → record_in n stored ≡ Some (record_of n (opened_of stored))
unfolding record_in
in-use n stored used = ap (λ b. cond b (Some (record_of n (opened_of stored))) None) used

-- RECORDS
module _ (old new : VolumeView) (n : ℕ) (stored : List ℕ) (was now : List Attribute) (e : EditsBlock old new n stored was now) where
  pub was-at : record_on old n ≡ Some (record_of n (opened_of (old.block n)))
  was-at = ap (λ b. cond b (record_in n (old.block n)) None) (lt-ltb n old.layout.count e.inside) ∙ in-use n (old.block n) e.used

  pub now-at : record_on new n ≡ Some (record_of n (opened_of stored))
  now-at = record_at-written old new n stored e.replaces e.told e.inside ∙ in-use n stored e.used_still

  abbrev pub edit-of : EditsAt (records_of old) (records_of new) n (parts_made n was) (parts_made n now)
  edit-of = record {
    changes = ChangesAt-block old new n stored e.replaces;
    inside = e.inside;
    was_record = record_of n (opened_of (old.block n));
    now_record = record_of n (opened_of stored);
    was_at = was-at;
    now_at = now-at;
    header = e.header;
    edit = Replaces-map (part_of n) _ _ _ _ e.attributes_are;
  }

  -- CLAUSES ON RECORDS
  pub shape-block : ((m : ℕ) → MeetsShape old m) → (m : ℕ) → MeetsShape new m
  shape-block shape m = elim (cases_eq m n) [
    | inl same ↦ λ inside used. subst IsWellFormed (sym (ap new.block same ∙ e.replaces.block e.told)) e.well
    | inr ne ↦ λ inside used.
        subst IsWellFormed (sym (e.replaces.blocks m ne))
        (shape m (subst (λ (l : TableLayout). m < l.count) e.replaces.layout inside)
        (subst (λ b. IsTrue (is_in_use b)) (e.replaces.blocks m ne) used))
  ]

  pub attributes-block : IsRightRecord n (record_of n (opened_of stored)) → ((m : ℕ) → MeetsAttributes (records_of old) m) → (m : ℕ)
      → MeetsAttributes (records_of new) m
  attributes-block right meets m = elim (cases_eq m n) [
    | inl same ↦ subst (MeetsAttributes (records_of new)) (sym same) (subst (λ o. IfSome o (IsRightRecord n)) (sym now-at) right)
    | inr ne ↦ subst (λ o. IfSome o (IsRightRecord m)) (sym (edit-of.changes.others m ne)) (meets m)
  ]

-- a base record belongs to itself
pub base-file : (n : ℕ) (r : Record) → IsTrue (is_base r) → file_of n r ≡ n
base-file n r base = by r.header.base base
  where
    by : (o : Option Reference) → IsTrue (is_none o) → unwrap_or (option_map (λ (reference : Reference). reference.number) o) n ≡ n
    by None is = refl
    by (Some reference) is = cc

-- the root or an ordinary file is none of the system's others
pub apart-from : (f m : ℕ) → MayBeEdited f → m < SECURE → m ≢ ROOT → f ≢ m
apart-from f m (inl root) low other same = other (sym same ∙ root)
apart-from f m (inr high) low other same = absurd (omega (arith, low, same, high))

-- so its records are none of those that the mirror copies
pub high-record : (n f : ℕ) (r : Record) → file_of n r ≡ f → MayBeEdited f → IsRightRecord n r → 4 ≤ n
high-record n f r file ordinary right = elim (cases_lt n 4) [
  | inr le ↦ le
  | inl low ↦ absurd (apart-from f n ordinary (omega (arith, low)) (λ z. absurd (omega (arith, z, low)))
      (sym file ∙ base-file n r (right.system (omega (arith, low)))))
]

-- CLUSTERS that lie outside the table and its mirror hold what they held.
no-stream : (kind : ℕ) (name : List ℕ) (part : Part) → ((kind == DATA) && (length name == 0)) ≡ false → part.kind ≡ kind → part.name ≡ name
    → is_of DATA [] part ≡ false
no-stream kind name part other k n = by (is_of DATA [] part) refl
  where
    by : (b : Bool) → is_of DATA [] part ≡ b → is_of DATA [] part ≡ false
    by false e = e
    by true e =
        let p = and_parts (part.kind == DATA) (bytes_eq part.name []) e in
        let empty : name ≡ [] = sym n ∙ (bytes_eq-Decides part.name []).0 p.1 in
        let is : kind ≡ DATA = sym k ∙ eqb-true part.kind DATA p.0 in
        let yes = and_from (kind == DATA) (length name == 0) (eq-eqb kind DATA is) (eq-eqb (length name) 0 (ap length empty)) in
        let never : true ≡ false = sym yes ∙ other in
        cc

-- a part of this type and name
pub part-at : (view : VolumeView) (f kind : ℕ) (name : List ℕ) (part : Part) → Contains (parts_at view f kind name) part
    → Contains (parts (records_of view) f) part × (part.kind ≡ kind) × (part.name ≡ name)
part-at view f kind name part c =
    let its = Contains-from_filter (is_of kind name) (parts (records_of view) f) part c in
    let p = and_parts (part.kind == kind) (bytes_eq part.name name) its.1 in
    (its.0, eqb-true part.kind kind p.0, (bytes_eq-Decides part.name name).0 p.1)

module _ (old new : VolumeView) (outside : (c : ℕ) → IsOutsideTable old.layout c → new.cluster c ≡ old.cluster c) (o : HasOwners old)
    (some : 0 < old.layout.cluster_sectors) (unnamed : o.table.part.name ≡ []) where
  -- what a part has that is no unnamed $DATA
  pub part-stays : (f : ℕ) (part : Part) (c : ℕ) → Contains (parts (records_of old) f) part → is_of DATA [] part ≡ false
      → 1 ≤ times_covered (part_runs part) c → new.cluster c ≡ old.cluster c
  part-stays f part c among other covered = outside c (other-outside old o some unnamed f part c among other covered)

  -- .. and what any attribute has but the table and its mirror
  pub attribute-stays : (f kind : ℕ) (name : List ℕ) → is_table_key (key_of f kind name) ≡ false
      → KeepsClusters old new (parts_at old f kind name)
  attribute-stays f kind name free vcn c at =
      let owned = spot_at-owned (parts_at old f kind name) vcn c at in
      let its = part-at old f kind name owned.0 owned.1 in
      elim (cases_Bool ((kind == DATA) && (length name == 0))) [
        | inl stream ↦ outside c
            (lies-outside old o some f owned.0 c its.0 owned.2
            (inr (no-file f (and-last (kind == DATA) (length name == 0) ((f == MFT) || (f == MFT_MIRROR)) free stream))))
        | inr other ↦ part-stays f owned.0 c its.0 (no-stream kind name owned.0 other its.1 its.2) owned.2
      ]
    where
      and-last : (x y z : Bool) → (x && (y && z)) ≡ false → (x && y) ≡ true → z ≡ false
      and-last true true z e t = e
      and-last true false z e t = cc
      and-last false y z e t = cc

      no-file : (f : ℕ) → ((f == MFT) || (f == MFT_MIRROR)) ≡ false → (f ≢ MFT) × (f ≢ MFT_MIRROR)
      no-file f e =
          let q = or_parts (f == MFT) (f == MFT_MIRROR) e in (
            (λ s. let t = eq-eqb f MFT s in let never : true ≡ false = sym t ∙ q.0 in cc),
            (λ s. let t = eq-eqb f MFT_MIRROR s in let never : true ≡ false = sym t ∙ q.1 in cc),
          )

  pub lists-stay : (f : ℕ) → KeepsList old new (parts (records_of old) f)
  lists-stay f = All-from_Contains (λ part. IsTrue (is_list part) → KeepsClusters old new (part ∷ [])) (parts (records_of old) f)
      (λ part among list vcn c at.
      let owned = spot_at-owned (part ∷ []) vcn c at in
      let same = Contains-only part owned.0 owned.1 in
      let kind = eqb-true part.kind ATTRIBUTE_LIST list in
      outside c (lies-outside old o some f part c among (subst (λ (p : Part). 1 ≤ times_covered (part_runs p) c) (sym same) owned.2)
      (inl (λ q. omega (arith, q, kind)))))

  pub mirror_end-stays : KeepsMirrorEnd old new
  mirror_end-stays vcn c behind at = outside c (mirror-outside old o some vcn c behind at)
