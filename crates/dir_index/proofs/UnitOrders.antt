-- Lists of units that are compared one unit after the other.
use Rattle.std.proofs.Common.{◌≡◌, ◌<◌, ℕ, zero, suc, List, [], ◌∷◌, drop, length, length-drop, inl, inr, refl, sym, ◌∙◌, arith}
use Rattle.std.specs.Prelude.{min, slice_index}
use Rattle.std.specs.Ordering.{nat_cmp, ordering_then}
use Rattle.std.specs.declared.cmp.Ordering.TheVariants.{Less, Equal, Greater}
use Rattle.std.proofs.lemmas.Bool.{cases_order}
use Rattle.dir_index.specs.SoughtLaws.{by_fold}
use Rattle.list_laws.proofs.OrderLaws.{cmp_equal, cmp_greater, cmp_less}

module _ (fold : ℕ → ℕ) where
  rest_less : (xs ys : List ℕ) → length xs ≡ 0 → 0 < length ys → by_fold fold xs ys ≡ Less
  rest_less [] [] e h = absurd (omega arith)
  rest_less [] (y ∷ ys) e h = refl
  rest_less (x ∷ xs) ys e h = absurd (omega arith)

  rest_equal : (xs ys : List ℕ) → length xs ≡ 0 → length ys ≡ 0 → by_fold fold xs ys ≡ Equal
  rest_equal [] [] e h = refl
  rest_equal [] (y ∷ ys) e h = absurd (omega arith)
  rest_equal (x ∷ xs) ys e h = absurd (omega arith)

  rest_greater : (xs ys : List ℕ) → 0 < length xs → length ys ≡ 0 → by_fold fold xs ys ≡ Greater
  rest_greater [] ys e h = absurd (omega arith)
  rest_greater (x ∷ xs) [] e h = refl
  rest_greater (x ∷ xs) (y ∷ ys) e h = absurd (omega arith)

  -- where one of them has no more units, the lengths decide
  pub by_ends : (xs ys : List ℕ) (i : ℕ) → i ≡ min (length xs) (length ys)
      → by_fold fold (drop i xs) (drop i ys) ≡ nat_cmp (length xs) (length ys)
  by_ends xs ys i e =
      let m = length-drop i xs in
      let n = length-drop i ys in
      elim (cases_order (length xs) (length ys)) [
        | inl same ↦ rest_equal (drop i xs) (drop i ys) (omega (arith, m, e, same)) (omega (arith, n, e, same))
            ∙ sym (cmp_equal (length xs) (length ys) same)
        | inr w ↦ elim w [
          | inl lt ↦ rest_less (drop i xs) (drop i ys) (omega (arith, m, e, lt)) (omega (arith, n, e, lt))
              ∙ sym (cmp_less (length xs) (length ys) lt)
          | inr gt ↦ rest_greater (drop i xs) (drop i ys) (omega (arith, m, e, gt)) (omega (arith, n, e, gt))
              ∙ sym (cmp_greater (length xs) (length ys) gt)
        ]
      ]

  -- the units there decide, or else those behind them
  pub by_units : (xs ys : List ℕ) (i : ℕ) → i < length xs → i < length ys
      → by_fold fold (drop i xs) (drop i ys)
      ≡ ordering_then (nat_cmp (fold (slice_index xs i)) (fold (slice_index ys i))) (by_fold fold (drop (suc i) xs) (drop (suc i) ys))
  by_units [] ys i h k = absurd (omega arith)
  by_units (x ∷ xs) [] i h k = absurd (omega arith)
  by_units (x ∷ xs) (y ∷ ys) zero h k = refl
  by_units (x ∷ xs) (y ∷ ys) (suc i) h k = by_units xs ys i (omega arith) (omega arith)
