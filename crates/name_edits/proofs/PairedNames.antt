-- DOS names by counts: each stands beside a long one, also once names came or went.
use Rattle.std.proofs.Common.{All, Bool, List, ap, arith, eq-eqb, eqb-true, false, inl, inr, refl, subst, sym, true, ℕ, ◌&&◌, ◌==◌, ◌∙◌}
use Rattle.std.proofs.Common.{◌∷◌, ◌≡◌, ◌≢◌, ◌≤◌}
use Rattle.std.specs.List.{Contains}
use Rattle.std.specs.Prelude.{count_by}
use Rattle.std.proofs.lemmas.Bool.{and_from, and_parts, cases_eq, false_from_ne_true}
use Rattle.std.proofs.lemmas.List.Elements.{All-contains}
use Rattle.list_laws.specs.SameItems.{SameItems}
use Rattle.list_laws.proofs.FindLaws.{count-cons, count-no, count-none, count-some, passing}
use Rattle.list_laws.proofs.MemberLaws.{All-from_Contains}
use Rattle.list_laws.proofs.SameItemsLaws.{count-append}
use Rattle.ntfs_def.specs.FileName.{FileName}
use Rattle.volume_def.specs.FileNames.{is_dos}
use Rattle.volume_def.specs.LinksClause.{IsPairedAmong, is_dos_in, is_long_in}
use Rattle.edit_def.specs.Names.{ArePaired, DropsNames}

-- DOS names, by counts.
pub paired-to : (names : List FileName) → All (IsPairedAmong names) names → ArePaired names
paired-to names all dir some =
    let w = passing (is_dos_in dir) names some in
    let p = and_parts (is_dos w.0) (w.0.parent.number == dir) w.2 in
    let e = eqb-true w.0.parent.number dir p.1 in
    let has = All-contains (IsPairedAmong names) names w.0 all w.1 in
    (subst (λ d. 1 ≤ count_by (is_long_in d) names) e (has.long p.0), subst (λ d. count_by (is_dos_in d) names ≤ 1) e (has.alone p.0))

pub paired-from : (names : List FileName) → ArePaired names → All (IsPairedAmong names) names
paired-from names paired = All-from_Contains (IsPairedAmong names) names (λ name c. record {
  long = λ dos. (at name c dos).0;
  alone = λ dos. (at name c dos).1;
})
  where
    at : (name : FileName) → Contains names name → is_dos name ≡ true
        → (1 ≤ count_by (is_long_in name.parent.number) names) × (count_by (is_dos_in name.parent.number) names ≤ 1)
    at name c dos =
        paired name.parent.number (count-some (is_dos_in name.parent.number) names name c
        (and_from (is_dos name) (name.parent.number == name.parent.number) dos (eq-eqb name.parent.number name.parent.number refl)))

pub paired-same : (xs ys : List FileName) → SameItems xs ys → ArePaired xs → ArePaired ys
paired-same xs ys h paired dir some =
    let a = h.counts (is_dos_in dir) in
    let b = h.counts (is_long_in dir) in
    let p = paired dir (omega arith) in
    (omega (arith, p.0), omega (arith, p.1))

-- a name more that is no DOS name
dos-none : (name : FileName) (dir : ℕ) → is_dos name ≡ false → is_dos_in dir name ≡ false
dos-none name dir e = ap (λ b. b && (name.parent.number == dir)) e

pub paired-gets : (name : FileName) (xs ys : List FileName) → is_dos name ≡ false → SameItems (name ∷ xs) ys → ArePaired xs → ArePaired ys
paired-gets name xs ys plain h paired dir some =
    let a = h.counts (is_dos_in dir) in
    let b = h.counts (is_long_in dir) in
    let c = count-no (is_dos_in dir) name xs (dos-none name dir plain) in
    let d = count-cons (is_long_in dir) name xs in
    let p = paired dir (omega arith) in
    (omega (arith, p.0), omega (arith, p.1))

-- Names that go, all of one directory, which keeps a long name or has no DOS name any more.
none-other : (test : ℕ → FileName → Bool) (dir other : ℕ) (gone : List FileName)
    → ((name : FileName) → test other name ≡ true → name.parent.number ≡ other) → dir ≢ other
    → All (λ (name : FileName). name.parent.number ≡ dir) gone → count_by (test other) gone ≡ 0
none-other test dir other gone names ne there = count-none (test other) gone (λ name c.
    false_from_ne_true (test other name)
    (λ e. ne (sym (All-contains (λ (n : FileName). n.parent.number ≡ dir) gone name there c) ∙ names name e)))

in-dir : (b : Bool) (name : FileName) (dir : ℕ) → (b && (name.parent.number == dir)) ≡ true → name.parent.number ≡ dir
in-dir b name dir e = eqb-true name.parent.number dir (and_parts b (name.parent.number == dir) e).1

pub paired-drops : (dir : ℕ) (gone old new : List FileName) → DropsNames dir gone old new → ArePaired old → ArePaired new
paired-drops dir gone old new d paired at some = elim (cases_eq dir at) [
  | inl e ↦
      let a = d.items.counts (is_dos_in at) in
      let b = count-append (is_dos_in at) gone new in
      let p = paired at (omega arith) in (
        elim d.pairs [
          | inl none ↦ let z = subst (λ k. count_by (is_dos_in k) new ≡ 0) e none in absurd (omega (arith, z, some))
          | inr long ↦ subst (λ k. 1 ≤ count_by (is_long_in k) new) e long
        ],
        omega (arith, p.1),
      )
  | inr ne ↦
      let a = d.items.counts (is_dos_in at) in
      let b = count-append (is_dos_in at) gone new in
      let c = d.items.counts (is_long_in at) in
      let f = count-append (is_long_in at) gone new in
      let g = none-other is_long_in dir at gone (λ name t. in-dir (name.namespace == 1) name at t) ne d.there in
      let p = paired at (omega arith) in
      (omega (arith, p.0), omega (arith, p.1))
]
