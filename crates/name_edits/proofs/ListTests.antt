-- How many items of a list pass a test, and whether one does.
use Rattle.std.proofs.Common.{Bool, List, [], ap, arith, false, inl, inr, not, refl, suc, sym, true, zero, ℕ, ◌&&◌, ◌+◌, ◌<◌, ◌||◌, ◌∙◌}
use Rattle.std.proofs.Common.{◌∷◌, ◌≡◌, ◌≤◌}
use Rattle.std.specs.List.{flat_map, list_any, range_with_len}
use Rattle.std.specs.Prelude.{count_by}
use Rattle.std.proofs.lemmas.Bool.{cases_eq}
use Rattle.list_laws.specs.Ordered.{in_order}
use Rattle.list_laws.specs.SameItems.{SameItems}
use Rattle.list_laws.proofs.FindLaws.{any-found, count-cons, count-no, count-yes, passing, some-counted}
use Rattle.list_laws.proofs.OrderedLaws.{count-in_order}
use Rattle.list_laws.proofs.SameItemsLaws.{SameItems-passing, SameItems-sym, count-append}

-- two tests that imply each other
pub both-ways : (a b : Bool) → (a ≡ true → b ≡ true) → (b ≡ true → a ≡ true) → a ≡ b
both-ways true b f g = sym (f refl)
both-ways false true f g = g refl
both-ways false false f g = refl

-- tests that agree
pub any-agree : {A : Type 0} (p q : A → Bool) (xs : List A) → ((x : A) → q x ≡ p x) → list_any q xs ≡ list_any p xs
any-agree p q [] same = refl
any-agree p q (x ∷ xs) same = ap (λ b. b || list_any q xs) (same x) ∙ ap (λ b. p x || b) (any-agree p q xs same)

-- one test of the same items
pub any-SameItems : {A : Type 0} (p : A → Bool) (xs ys : List A) → SameItems xs ys → list_any p ys ≡ list_any p xs
any-SameItems p xs ys same = both-ways (list_any p ys) (list_any p xs)
    (λ some. let w = passing p ys (some-counted p ys some) in
    let v = SameItems-passing p ys xs w.0 (SameItems-sym xs ys same) w.1 w.2 in any-found p xs v.0 v.1 v.2)
    (λ some. let w = passing p xs (some-counted p xs some) in
    let v = SameItems-passing p xs ys w.0 same w.1 w.2 in any-found p ys v.0 v.1 v.2)

-- a test that another implies is passed by as many or more
pub count-implied : {A : Type 0} (p q : A → Bool) (xs : List A) → ((x : A) → p x ≡ true → q x ≡ true) → count_by p xs ≤ count_by q xs
count-implied p q [] h = omega arith
count-implied {A = A} p q (x ∷ xs) h = by (p x) refl (count-implied p q xs h)
  where
    by : (b : Bool) → p x ≡ b → count_by p xs ≤ count_by q xs → count_by p (x ∷ xs) ≤ count_by q (x ∷ xs)
    by true e ih =
        let a = count-yes p x xs e in
        let b = count-yes q x xs (h x e) in
        omega (arith, a, b, ih)
    by false e ih =
        let a = count-no p x xs e in
        let b = count-cons q x xs in
        omega (arith, a, b, ih)

-- what passes is what passes another test too, and what does not
pub count-split : {A : Type 0} (p q : A → Bool) (xs : List A)
    → count_by p xs ≡ count_by (λ x. p x && q x) xs + count_by (λ x. p x && not (q x)) xs
count-split p q [] = omega arith
count-split {A = A} p q (x ∷ xs) = by (p x) (q x) refl refl (count-split p q xs)
  where
    by : (s t : Bool) → p x ≡ s → q x ≡ t → count_by p xs ≡ count_by (λ y. p y && q y) xs + count_by (λ y. p y && not (q y)) xs
        → count_by p (x ∷ xs) ≡ count_by (λ y. p y && q y) (x ∷ xs) + count_by (λ y. p y && not (q y)) (x ∷ xs)
    by true true s t ih =
        let a = count-yes p x xs s in
        let b = count-yes (λ y. p y && q y) x xs (rw (s, t) refl) in
        let c = count-no (λ y. p y && not (q y)) x xs (rw (s, t) refl) in
        omega (arith, a, b, c, ih)
    by true false s t ih =
        let a = count-yes p x xs s in
        let b = count-no (λ y. p y && q y) x xs (rw (s, t) refl) in
        let c = count-yes (λ y. p y && not (q y)) x xs (rw (s, t) refl) in
        omega (arith, a, b, c, ih)
    by false t' s t ih =
        let a = count-no p x xs s in
        let b = count-no (λ y. p y && q y) x xs (rw s refl) in
        let c = count-no (λ y. p y && not (q y)) x xs (rw s refl) in
        omega (arith, a, b, c, ih)

-- of one part of a range as many pass as of all, or fewer
pub count-piece : {A : Type 0} (p : A → Bool) (g : ℕ → List A) (from n k : ℕ) → from ≤ k → k < from + n
    → count_by p (g k) ≤ count_by p (flat_map g (range_with_len from n))
count-piece p g from zero k a b = absurd (omega arith)
count-piece {A = A} p g from (suc n) k a b = elim (cases_eq from k) [
  | inl e ↦
      let c = count-append p (g from) (flat_map g (range_with_len (from + 1) n)) in
      let d = ap (λ j. count_by p (g j)) e in
      omega (arith, c, d)
  | inr ne ↦
      let c = count-append p (g from) (flat_map g (range_with_len (from + 1) n)) in
      let r = count-piece p g (from + 1) n k (omega arith) (omega arith) in
      omega (arith, c, r)
]

-- a list in order has its items
pub in_order-items : {A : Type 0} (above : A → A → Bool) (xs : List A) → SameItems xs (in_order above xs)
in_order-items above xs = record { counts = λ p. count-in_order above p xs }
