-- What the names that go with one leave of the names of their file.
use Rattle.std.proofs.Common.{Bool, List, [], ap, arith, cond, eq-eqb, eqb-true, false, filter, if◌then◌else◌, inl, inr, length, ltb, not}
use Rattle.std.proofs.Common.{refl, subst, sym, true, ℕ, ◌&&◌, ◌++◌, ◌+◌, ◌==◌, ◌∙◌, ◌∷◌, ◌≡◌, ◌≤◌, ◌⊎◌}
use Rattle.std.specs.List.{Contains}
use Rattle.std.specs.Prelude.{count_by}
use Rattle.std.proofs.lemmas.Bool.{and_from, and_parts, cases_lt, ltb-true, not-false}
use Rattle.std.proofs.lemmas.List.Sums.{count_by-le-length}
use Rattle.list_laws.specs.SameItems.{SameItems}
use Rattle.list_laws.proofs.BoolLaws.{at_most_one}
use Rattle.list_laws.proofs.FindLaws.{count-cons, count-no, count-none, count-some, count-yes, passing, same_passing}
use Rattle.list_laws.proofs.MemberLaws.{All-from_Contains, Contains-cases, Contains-from_filter, Contains-nil, nil-from_Contains}
use Rattle.list_laws.proofs.SameItemsLaws.{count-append, count-filter}
use Rattle.ntfs_def.specs.FileName.{FileName}
use Rattle.volume_def.specs.FileNames.{is_dos, is_not_dos}
use Rattle.volume_def.specs.LinksClause.{is_dos_in, is_long_in}
use Rattle.edit_def.specs.Names.{ArePaired, DropsNames, gone_names, is_only_long}
use Rattle.name_edits.proofs.ListTests.{count-implied}

-- THE NAMES THAT GO.
module _ (all : List FileName) (name : FileName) where
  abbrev dos : List FileName
  dos = if is_only_long all name then filter (is_dos_in name.parent.number) all else []

  dos-only : (b : Bool) (n : FileName) → Contains (if b then filter (is_dos_in name.parent.number) all else []) n
      → is_dos_in name.parent.number n ≡ true
  dos-only true n c = (Contains-from_filter (is_dos_in name.parent.number) all n c).1
  dos-only false n c = absurd (Contains-nil n c)

  -- all of one directory
  pub gone-beside : (n : FileName) → Contains (gone_names all name) n → n.parent.number ≡ name.parent.number
  gone-beside n c = elim (Contains-cases name dos n c) [
    | inl same ↦ ap (λ (k : FileName). k.parent.number) (sym same)
    | inr later ↦ eqb-true n.parent.number name.parent.number
        (and_parts (is_dos n) (n.parent.number == name.parent.number) (dos-only (is_only_long all name) n later)).1
  ]

  -- one of them no DOS name
  pub gone-one : is_dos name ≡ false → count_by is_not_dos (gone_names all name) ≡ 1
  gone-one plain =
      let a = count-yes is_not_dos name dos (ap not plain) in
      let b = count-none is_not_dos dos
      (λ n c. ap not (and_parts (is_dos n) (n.parent.number == name.parent.number) (dos-only (is_only_long all name) n c)).0) in
      omega (arith, a, b)

module _ (all left : List FileName) (name : FileName) (plain : is_dos name ≡ false)
    (items : SameItems (gone_names all name ++ left) all) where
  abbrev dir : ℕ
  dir = name.parent.number

  -- and what is left has a long name or no DOS name there
  pub gone-pairs : ArePaired all → (count_by (is_dos_in dir) left ≡ 0) ⊎ (1 ≤ count_by (is_long_in dir) left)
  gone-pairs paired = by (is_only_long all name) refl
    where
      counts : (p : FileName → Bool) → count_by p (gone_names all name) + count_by p left ≡ count_by p all
      counts p = sym (count-append p (gone_names all name) left) ∙ sym (items.counts p)

      no-dos : count_by (is_dos_in dir) (name ∷ dos all name) ≡ count_by (is_dos_in dir) (dos all name)
      no-dos = let c = count-no (is_dos_in dir) name (dos all name) (ap (λ b. b && (name.parent.number == dir)) plain) in omega (arith, c)

      by : (b : Bool) → is_only_long all name ≡ b → (count_by (is_dos_in dir) left ≡ 0) ⊎ (1 ≤ count_by (is_long_in dir) left)
      by true e =
          let c = counts (is_dos_in dir) in
          let d = ap (λ b. count_by (is_dos_in dir) (if b then filter (is_dos_in dir) all else [])) e in
          let f = count-filter (is_dos_in dir) (is_dos_in dir) all in
          let g = count-twice (is_dos_in dir) all in
          inl (omega (arith, c, no-dos, d, f, g))
        where
          count-twice : (p : FileName → Bool) (xs : List FileName) → count_by (λ x. p x && p x) xs ≡ count_by p xs
          count-twice p xs =
              let a = count-implied (λ x. p x && p x) p xs (λ x e. (and_parts (p x) (p x) e).0) in
              let b = count-implied p (λ x. p x && p x) xs (λ x e. and_from (p x) (p x) e e) in
              omega (arith, a, b)
      by false e = elim (cases_lt 0 (count_by (is_dos_in dir) left)) [
        | inr ge ↦ inl (omega (arith, ge))
        | inl lt ↦
            let c = counts (is_dos_in dir) in
            let l = counts (is_long_in dir) in
            let p = paired dir (omega (arith, c, lt)) in
            let none : dos all name ≡ [] = ap (λ b. if b then filter (is_dos_in dir) all else []) e in
            let d = ap (λ k. count_by (is_long_in dir) (name ∷ k)) none in
            let f = count-cons (is_long_in dir) name [] in
            inr (long (name.namespace == 1) refl p.0 (l) (d) f e)
      ]
        where
          long : (b : Bool) → (name.namespace == 1) ≡ b → 1 ≤ count_by (is_long_in dir) all
              → count_by (is_long_in dir) (gone_names all name) + count_by (is_long_in dir) left ≡ count_by (is_long_in dir) all
              → count_by (is_long_in dir) (name ∷ dos all name) ≡ count_by (is_long_in dir) (name ∷ [])
              → count_by (is_long_in dir) (name ∷ []) ≡ cond (is_long_in dir name) 1 0 + count_by (is_long_in dir) []
              → is_only_long all name ≡ false → 1 ≤ count_by (is_long_in dir) left
          long false s some l d f e =
              let z = ap {B = ℕ} (λ b. cond (b && (name.parent.number == dir)) 1 0) s in
              omega (arith, some, l, d, f, z)
          long true s some l d f e =
              let one = at_most_one (is_long_in dir name) in
              let two = ltb-true 1 (count_by (is_long_in dir) all) (not-false (ltb 1 (count_by (is_long_in dir) all))
              (sym (ap (λ b. b && not (ltb 1 (count_by (is_long_in dir) all))) s) ∙ e)) in
              omega (arith, two, l, d, f, one)

  pub gone-drops : ArePaired all → DropsNames dir (gone_names all name) all left
  gone-drops paired = record {
    items = items;
    there = All-from_Contains (λ (n : FileName). n.parent.number ≡ dir) (gone_names all name) (gone-beside all name);
    pairs = gone-pairs paired;
  }

  -- where another name is no DOS name some name is left
  pub gone-some : 2 ≤ count_by is_not_dos all → 1 ≤ length left
  gone-some two =
      let a = items.counts is_not_dos in
      let b = count-append is_not_dos (gone_names all name) left in
      let c = count_by-le-length is_not_dos left in
      omega (arith, a, b, c, two, gone-one all name plain)

  -- a long name is no DOS name
  long-plain : (d : ℕ) (n : FileName) → is_long_in d n ≡ true → is_not_dos n ≡ true
  long-plain d n long = ap (λ k. not (k == 2)) (eqb-true n.namespace 1 (and_parts (n.namespace == 1) (n.parent.number == d) long).0)

  -- and where none is, none
  pub gone-all : ArePaired all → Contains all name → count_by is_not_dos all ≡ 1 → left ≡ []
  gone-all paired among one = nil-from_Contains left (λ n c. by n c (is_dos n) refl)
    where
      none : count_by is_not_dos left ≡ 0
      none =
          let a = items.counts is_not_dos in
          let b = count-append is_not_dos (gone_names all name) left in
          omega (arith, a, b, one, gone-one all name plain)

      -- a DOS name that is left stands beside the only long one, which is the one that goes
      dos-left : (n : FileName) → Contains left n → is_dos n ≡ true → ⊥
      dos-left n c dos =
          let d = n.parent.number in
          let is : is_dos_in d n ≡ true = and_from (is_dos n) (n.parent.number == d) dos (eq-eqb d d refl) in
          let some = count-some (is_dos_in d) left n c is in
          let a = items.counts (is_dos_in d) in
          let b = count-append (is_dos_in d) (gone_names all name) left in
          let long = passing (is_long_in d) all (paired d (omega (arith, a, b, some))).0 in
          let same = same_passing is_not_dos all name long.0 (omega (arith, one)) among (ap not plain) long.1
          (long-plain d long.0 long.2) in
          let place : dir ≡ d = ap (λ (k : FileName). k.parent.number) same
          ∙ eqb-true long.0.parent.number d (and_parts (long.0.namespace == 1) (long.0.parent.number == d) long.2).1 in
          elim (gone-pairs paired) [
            | inl empty ↦ let e = subst (λ k. count_by (is_dos_in k) left ≡ 0) place empty in absurd (omega (arith, e, some))
            | inr more ↦
                let l = count-implied (is_long_in dir) is_not_dos left (long-plain dir) in
                absurd (omega (arith, l, more, none))
          ]

      by : (n : FileName) → Contains left n → (b : Bool) → is_dos n ≡ b → ⊥
      by n c true dos = dos-left n c dos
      by n c false dos = let some = count-some is_not_dos left n c (ap not dos) in absurd (omega (arith, some, none))
