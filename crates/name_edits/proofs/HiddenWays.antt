-- Which files are hidden does not go with the size of the table: a shortest way to the system meets no file twice, so it is no longer than
-- there are records.
use Rattle.std.proofs.Common.{Bool, List, [], ap, arith, eqb, eqb-true, false, inl, inr, length, not, refl, subst, suc, sym, true, zero}
use Rattle.std.proofs.Common.{ℕ, ◌&&◌, ◌+◌, ◌-◌, ◌<◌, ◌==◌, ◌||◌, ◌∙◌, ◌∷◌, ◌≡◌, ◌≤◌}
use Rattle.std.specs.List.{AllByRecursion, Contains, IsDistinct, list_any}
use Rattle.std.proofs.lemmas.Bool.{cases_eq, cases_lt, false_from_ne_true}
use Rattle.std.proofs.lemmas.List.Elements.{recursion_from_All}
use Rattle.std.proofs.lemmas.Map.Steps.{length-le_from_distinct_below}
use Rattle.list_laws.proofs.FindLaws.{any-found, none-among, passing, some-counted}
use Rattle.list_laws.proofs.MemberLaws.{All-from_Contains}
use Rattle.ntfs_def.specs.FileName.{FileName}
use Rattle.ntfs_def.specs.declared.records.TheConstants.{ROOT}
use Rattle.volume_def.specs.FileNames.{names_of}
use Rattle.volume_def.specs.Files.{Records}
use Rattle.tree_model.specs.Hidden.{is_hidden, is_system, leads_to_system}
use Rattle.tree_model.proofs.HiddenLaws.{leads-longer}

-- whether one of these names stands in a directory that leads to the system
abbrev any_leads : Records → ℕ → List FileName → Bool
any_leads records k names = list_any (λ (name : FileName). leads_to_system records k name.parent.number) names

none-equal : (q : ℕ) (xs : List ℕ) → list_any (eqb q) xs ≡ false → AllByRecursion (λ y. eqb q y ≡ false) xs
none-equal q xs e =
    recursion_from_All (λ (y : ℕ). eqb q y ≡ false) xs
    (All-from_Contains (λ (y : ℕ). eqb q y ≡ false) xs (λ y c. none-among (eqb q) xs y e c))

module _ (records : Records) (bounded : (g : ℕ) (name : FileName) → Contains (names_of records g) name → g < records.count) where
  -- the shortest way from g to the system has so many steps
  abbrev First : ℕ → ℕ → Type 0
  First zero g = leads_to_system records 0 g ≡ true
  First (suc n) g = (leads_to_system records (suc n) g ≡ true) × (leads_to_system records n g ≡ false)

  first-leads : (n g : ℕ) → First n g → leads_to_system records n g ≡ true
  first-leads zero g f = f
  first-leads (suc n) g f = f.0

  longer : (n k g : ℕ) → leads_to_system records n g ≡ true → n ≤ k → leads_to_system records k g ≡ true
  longer zero zero g e l = e
  longer (suc n) zero g e l = absurd (omega arith)
  longer n (suc k) g e l = elim (cases_eq n (suc k)) [
    | inl same ↦ subst (λ m. leads_to_system records m g ≡ true) same e
    | inr ne ↦ leads-longer records k g (longer n k g e (omega arith))
  ]

  first-once : (n k g : ℕ) → First n g → First k g → n ≤ k
  first-once zero k g f h = omega arith
  first-once (suc n) k g f h = elim (cases_lt k (suc n)) [
    | inl lt ↦ let e = sym (longer k n g (first-leads k g h) (omega arith)) ∙ f.1 in cc
    | inr ge ↦ ge
  ]

  first-of : (n g : ℕ) → leads_to_system records n g ≡ true → ((k : ℕ) → suc k ≡ n → leads_to_system records k g ≡ false) → First n g
  first-of zero g e below = e
  first-of (suc n) g e below = (e, below n refl)

  -- the next one on the way
  record Goes (n g : ℕ) : Type 0 where
    name : FileName
    there : Contains (names_of records g) name
    first : First n name.parent.number

  -- g itself is none of the system
  not-system : (n g : ℕ) → leads_to_system records n g ≡ false → is_system g ≡ false
  not-system zero g e = e
  not-system (suc n) g e = by (is_system g) refl e
    where
      by : (b : Bool) → is_system g ≡ b → (b || (not (g == ROOT) && any_leads records n (names_of records g))) ≡ false → is_system g ≡ false
      by true s e = cc
      by false s e = s

  goes : (n g : ℕ) → First (suc n) g → Goes n g
  goes n g f = by (is_system g) (g == ROOT) (not-system n g f.1) refl f.0
    where
      next : (any_leads records n (names_of records g) ≡ true) → (g == ROOT) ≡ false → Goes n g
      next any root =
          let w = passing (λ (name : FileName). leads_to_system records n name.parent.number) (names_of records g)
          (some-counted (λ (name : FileName). leads_to_system records n name.parent.number) (names_of records g) any) in
          record {
            name = w.0;
            there = w.1;
            first = first-of n w.0.parent.number w.2 (λ k same. false_from_ne_true (leads_to_system records k w.0.parent.number) (λ e.
                let found = any-found (λ (name : FileName). leads_to_system records k name.parent.number) (names_of records g) w.0 w.1 e in
                let leads : leads_to_system records (suc k) g ≡ true = lead k found (is_system g) refl root in
                let never : true ≡ false = sym (subst (λ m. leads_to_system records m g ≡ true) same leads) ∙ f.1 in
                cc));
          }
        where
          lead : (k : ℕ) → any_leads records k (names_of records g) ≡ true → (s : Bool) → is_system g ≡ s → (g == ROOT) ≡ false
              → leads_to_system records (suc k) g ≡ true
          lead k found true s root = rw s refl
          lead k found false s root = rw (s, root, found) refl

      by : (s r : Bool) → s ≡ false → (g == ROOT) ≡ r → (s || (not r && any_leads records n (names_of records g))) ≡ true → Goes n g
      by true r s root e = cc
      by false true s root e = cc
      by false false s root e = next e root

  -- the numbers on the way
  record Way (n g : ℕ) : Type 0 where
    list : List ℕ
    long : length list ≡ n
    distinct : IsDistinct eqb list
    on : (q : ℕ) → list_any (eqb q) list ≡ true → (q < records.count) × ((k : ℕ) × (1 ≤ k) × (k ≤ n) × First k q)

  way : (n g : ℕ) → First n g → Way n g
  unfolding IsDistinct
  way zero g f = record { list = []; long = refl; distinct = tt; on = λ q e. cc }
  way (suc n) g f = by (goes n g f) (λ p h. way n p h)
    where
      by : Goes n g → ((p : ℕ) → First n p → Way n p) → Way (suc n) g
      by next rest =
          let r = rest next.name.parent.number next.first in
          record {
            list = g ∷ r.list;
            long = ap suc r.long;
            distinct = (
              none-equal g r.list (false_from_ne_true (list_any (eqb g) r.list) (λ e.
                  let w = (r.on g e).1 in
                  let l = first-once (suc n) w.0 g f w.3 in
                  absurd (omega (arith, l, w.2)))),
              r.distinct,
            );
            on = λ q e. here q next r (eqb q g) refl e;
          }
        where
          here : (q : ℕ) → Goes n g → (r : Way n next.name.parent.number) → (b : Bool) → eqb q g ≡ b → (b || list_any (eqb q) r.list) ≡ true
              → (q < records.count) × ((k : ℕ) × (1 ≤ k) × (k ≤ suc n) × First k q)
          here q next r true b e =
              let same : g ≡ q = sym (eqb-true q g b) in (
                subst (λ k. k < records.count) same (bounded g next.name next.there),
                (suc n, omega arith, omega arith, subst (First (suc n)) same f),
              )
          here q next r false b e = let w = r.on q e in (w.0, (w.1.0, w.1.1, omega (arith, w.1.2), w.1.3))

  few : (n g : ℕ) → First n g → n ≤ records.count
  few n g f =
      let w = way n g f in
      let l = length-le_from_distinct_below w.list records.count w.distinct (λ q e. (w.on q e).0) in
      let long = w.long in
      omega (arith, l, long)

  -- beyond that no step counts
  leads-more : (n g : ℕ) → records.count ≤ n → leads_to_system records (suc n) g ≡ leads_to_system records n g
  leads-more n g l = by (leads_to_system records n g) (leads_to_system records (suc n) g) refl refl
    where
      by : (a b : Bool) → leads_to_system records n g ≡ a → leads_to_system records (suc n) g ≡ b
          → leads_to_system records (suc n) g ≡ leads_to_system records n g
      by true b s t = leads-longer records n g s ∙ sym s
      by false false s t = t ∙ sym s
      by false true s t = let f = few (suc n) g (t, s) in absurd (omega (arith, f, l))

  pub leads-enough : (more g : ℕ) → leads_to_system records (records.count + more) g ≡ leads_to_system records records.count g
  leads-enough zero g = ap (λ n. leads_to_system records n g) (omega arith)
  leads-enough (suc more) g =
      ap (λ n. leads_to_system records n g) (next records.count more)
      ∙ leads-more (records.count + more) g (omega arith) ∙ leads-enough more g
    where
      next : (n more : ℕ) → n + suc more ≡ suc (n + more)
      next n more = omega arith

  pub hidden-enough : (n g : ℕ) → records.count ≤ n → leads_to_system records n g ≡ is_hidden records g
  unfolding is_hidden
  hidden-enough n g l = ap (λ k. leads_to_system records k g) (parted n records.count l) ∙ leads-enough (n - records.count) g
    where
      parted : (n count : ℕ) → count ≤ n → n ≡ count + (n - count)
      parted n count l = omega arith
