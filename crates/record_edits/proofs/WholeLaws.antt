-- THE CLAUSE ON EXTENTS of one attribute, and of all of a file.
use Rattle.std.proofs.Common.{◌≡◌, ◌≢◌, ◌==◌, ◌&&◌, ◌⊎◌, ℕ, true, List, [], ◌∷◌, length, map, filter, Option, Some, None}
use Rattle.std.proofs.Common.{refl, sym, ap, subst, inl, inr, ◌∙◌, arith}
use Rattle.std.specs.Prelude.{All, Contains, IsSomeAnd, IsTrue}
use Rattle.std.specs.Str.{bytes_eq}
use Rattle.std.proofs.lemmas.Bool.{and_from, and_parts, eq-eqb, eqb-true}
use Rattle.std.proofs.lemmas.List.{length-map, nil_from_length}
use Rattle.std.proofs.lemmas.Slice.Eq.{bytes_eq-Decides}
use Rattle.ntfs_def.specs.declared.kinds.TheConstants.{FILE_NAME}
use Rattle.list_laws.specs.SameItems.{SameItems}
use Rattle.list_laws.proofs.MemberLaws.{All-from_Contains, Contains-filter, Contains-from_filter, Contains-head, Contains-nil}
use Rattle.list_laws.proofs.OptionLaws.{if-some}
use Rattle.list_laws.proofs.SameItemsLaws.{SameItems-length, SameItems-same}
use Rattle.volume_def.specs.Edits.{said_by}
use Rattle.volume_def.specs.ExtentsClause.{AreAttribute, MeetsExtents}
use Rattle.volume_def.specs.Files.{Part, Record, is_base, is_of, parts, parts_at, parts_like, record_on, records_of}
use Rattle.volume_def.specs.Readable.{IsFile}
use Rattle.volume_def.specs.Table.{TableLayout, cluster_bytes}
use Rattle.volume_def.specs.View.{VolumeView}
use Rattle.volume_def.proofs.ReadableLaws.{file-stream}
use Rattle.volume_def.proofs.SaidLaws.{AreStream-said}
use Rattle.edit_def.specs.Kept.{Key, key_of, same_key}
use Rattle.record_edits.specs.Whole.{IsWhole}
use Rattle.record_edits.proofs.ClauseEdits.{base-there}

-- what follows of a base record, of a file
pub of-file : (view : VolumeView) (f : ℕ) (P : Type 0) → ((r : Record) → record_on view f ≡ Some r → IsTrue (is_base r) → P)
    → IsFile view f → P
of-file view f P h is = by (record_on view f) refl is
  where
    by : (o : Option Record) → record_on view f ≡ o → IsSomeAnd o (λ r. IsTrue (is_base r)) → P
    by None at is = absurd is
    by (Some r) at is = h r at is

some-part : (xs : List Part) → (xs ≡ []) ⊎ ((x : Part) × Contains xs x)
some-part [] = inl refl
some-part (x ∷ xs) = inr (x, Contains-head x xs)

-- OUT OF THE CLAUSE on a file, and into it
pub whole-from : (view : VolumeView) (key : Key) → MeetsExtents (records_of view) (cluster_bytes view.layout) key.file
    → IsFile view key.file → IsWhole view key
whole-from view key meets is other = elim (some-part (parts_at view key.file key.kind key.name)) [
  | inl none ↦ inl none
  | inr (x, among) ↦
      let all = parts (records_of view) key.file in
      let w = Contains-from_filter (is_of key.kind key.name) (parts (records_of view) key.file) x among in
      let p = and_parts (x.kind == key.kind) (bytes_eq x.name key.name) w.1 in
      let kind : x.kind ≡ key.kind = eqb-true x.kind key.kind p.0 in
      let name : x.name ≡ key.name = (bytes_eq-Decides x.name key.name).0 p.1 in
      let are = file-stream view key.file x meets is w.0 (λ z. other (sym kind ∙ z)) in
      inr (subst (λ q. AreAttribute (cluster_bytes view.layout) key.file (filter (is_of q key.name) all)) kind
      (subst (λ q. AreAttribute (cluster_bytes view.layout) key.file (filter (is_of x.kind q) all)) name are))
]

pub meets-from : (view : VolumeView) (f : ℕ) → (IsFile view f → (kind : ℕ) (name : List ℕ) → IsWhole view (key_of f kind name))
    → MeetsExtents (records_of view) (cluster_bytes view.layout) f
meets-from view f whole =
    let Is : Part → Type 0 = λ part. part.kind ≢ FILE_NAME
    → AreAttribute (cluster_bytes view.layout) f (parts_like part (parts (records_of view) f)) in
    if-some (record_on view f) (λ r. IsTrue (is_base r) → All Is (parts (records_of view) f)) (λ r at base.
    All-from_Contains Is (parts (records_of view) f) (λ part among other.
    elim (whole (base-there (record_on view f) r at base) part.kind part.name other) [
      | inl none ↦ absurd (never part among none)
      | inr are ↦ are
    ]))
  where
    never : (part : Part) → Contains (parts (records_of view) f) part → parts_like part (parts (records_of view) f) ≡ [] → ⊥
    never part among none =
        let itself = and_from (part.kind == part.kind) (bytes_eq part.name part.name) (eq-eqb part.kind part.kind refl)
        ((bytes_eq-Decides part.name part.name).1 refl) in
        Contains-nil part (subst (λ xs. Contains xs part) none (Contains-filter (is_of part.kind part.name) (parts (records_of view) f) part
        among itself))

-- WHERE ITS PARTS SAY THE SAME, it is whole still.
pub whole-said : (old new : VolumeView) (key : Key) → SameItems (map said_by (parts_at old key.file key.kind key.name))
    (map said_by (parts_at new key.file key.kind key.name)) → new.layout ≡ old.layout → IsWhole old key → IsWhole new key
whole-said old new key same layout was other = elim (was other) [
  | inl none ↦
      let count = SameItems-length _ _ same in
      let a = length-map (parts_at old key.file key.kind key.name) said_by in
      let b = length-map (parts_at new key.file key.kind key.name) said_by in
      let zero = ap length none in
      inl (nil_from_length (parts_at new key.file key.kind key.name) (omega (arith, count, a, b, zero)))
  | inr are ↦ inr (subst (λ (l : TableLayout). AreAttribute (cluster_bytes l) key.file (parts_at new key.file key.kind key.name)) (sym
      layout)
      (AreStream-said (cluster_bytes old.layout) key.file _ _ same are))
]

pub whole-still : (old new : VolumeView) (key : Key)
    → parts_at new key.file key.kind key.name ≡ parts_at old key.file key.kind key.name → new.layout ≡ old.layout
    → IsWhole old key → IsWhole new key
whole-still old new key same = whole-said old new key (SameItems-same _ _ (ap (map said_by) (sym same)))

-- the same attribute
pub whole-like : (view : VolumeView) (key other : Key) → same_key key other ≡ true → IsWhole view key → IsWhole view other
whole-like view key other same h =
    let outer = and_parts (key.kind == other.kind) ((key.file == other.file) && bytes_eq key.name other.name) same in
    let inner = and_parts (key.file == other.file) (bytes_eq key.name other.name) outer.1 in
    subst (λ q. IsWhole view (key_of other.file other.kind q)) ((bytes_eq-Decides key.name other.name).0 inner.1)
    (subst (λ q. IsWhole view (key_of q other.kind key.name)) (eqb-true key.file other.file inner.0)
    (subst (λ q. IsWhole view (key_of key.file q key.name)) (eqb-true key.kind other.kind outer.0) h))
