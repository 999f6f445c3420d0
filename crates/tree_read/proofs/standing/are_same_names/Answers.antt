use Rattle.std.proofs.Common.{◌≡◌, ◌∷◌, ◌+◌, ◌<◌, ℕ, Bool, List, not, true, false, drop, get_or, length, refl, sym, ap, ◌∙◌, arith}
use Rattle.std.proofs.lemmas.List.{at_drop_more}
use Rattle.std.proofs.lemmas.Slice.Eq.{bytes_eq-Decides}
use Rattle.std.specs.Str.{bytes_eq}
use Rattle.tree_read.proofs.standing.are_same_names.Goals as goal

-- the names that are left, with the next one told apart
drop-next : (names : List (List ℕ)) (k : ℕ) (next : List ℕ) → k < length names → next ≡ get_or names k next
    → drop k names ≡ next ∷ drop (k + 1) names
drop-next names k next inside is = at_drop_more (λ xs. xs) names k next inside ∙ ap (λ n. n ∷ drop (k + 1) names) (sym is)

same-units : (xs ys : List ℕ) → bytes_eq xs ys ≡ true → xs ≡ ys
same-units xs ys e = grind (arith, bytes_eq-Decides xs ys)

units-same : (xs ys : List ℕ) → xs ≡ ys → bytes_eq xs ys ≡ true
units-same xs ys e = grind (arith, bytes_eq-Decides xs ys)

head-same : (x y : List ℕ) (xs ys : List (List ℕ)) → x ∷ xs ≡ y ∷ ys → x ≡ y
head-same x y xs ys e = cc

tail-same : (x y : List ℕ) (xs ys : List (List ℕ)) → x ∷ xs ≡ y ∷ ys → xs ≡ ys
tail-same x y xs ys e = cc

not-both : (b c : Bool) → b ≡ not c → b ≡ true → c ≡ true → ⊥
not-both b true is differ same = cc
not-both b false is differ same = cc

is-same : (b c : Bool) → b ≡ not c → b ≡ false → c ≡ true
is-same b true is alike = refl
is-same b false is alike = cc

-- units that are compared
compared : (r : Bool) (a b x y : List ℕ) → r ≡ not (bytes_eq a b) → a ≡ x → b ≡ y → r ≡ not (bytes_eq x y)
compared r a b x y is left right = is ∙ ap (λ l. not (bytes_eq l b)) left ∙ ap (λ l. not (bytes_eq x l)) right

pub returns-then-ne : goal.returns-then-ne
returns-then-ne c =
    let left = drop-next c.args.one.now c.names.name-index c.name-item.result c.names-test.true c.name-item.is in (
      (λ e. cc),
      (λ e. let same = head-same c.name-item.result c.in-Some.first.now _ _
          (sym left ∙ c.names.invariant.0 e ∙ c.in-Some.ensures.cases.0) in
          absurd (not-both c.ne.result (bytes_eq c.in-Some.first.now c.name-item.result)
          (compared c.ne.result _ _ _ _ c.ne.ensures c.as_slice.ensures c.as_slice-in-names.ensures) c.if-ne.true
          (units-same c.in-Some.first.now c.name-item.result (sym same)))),
    )

pub names-preserved : goal.names-preserved
names-preserved c =
    let left = drop-next c.args.one.now c.names.name-index c.name-item.result c.names-test.true c.name-item.is in
    let same = same-units c.in-Some.first.now c.name-item.result (is-same c.ne.result (bytes_eq c.in-Some.first.now c.name-item.result)
    (compared c.ne.result _ _ _ _ c.ne.ensures c.as_slice.ensures c.as_slice-in-names.ensures) c.if-ne.false) in (
      (λ e. tail-same c.name-item.result c.in-Some.first.now _ _ (sym left ∙ c.names.invariant.0 e ∙ c.in-Some.ensures.cases.0)),
      (λ e. c.names.invariant.1 (left ∙ ap (λ n. n ∷ drop (c.names.name-index + 1) c.args.one.now) (sym same)
          ∙ ap (λ rest. c.in-Some.first.now ∷ rest) e ∙ sym c.in-Some.ensures.cases.0)),
    )
