-- What holds of each two items of a list, where one is put in order or some go.
use Rattle.std.proofs.Common.{◌||◌, ◌≡◌, suc, Bool, true, false, cond, List, [], ◌∷◌, find, refl, arith, Some, None}
use Rattle.std.proofs.lemmas.List.Elements.{All-cons, All-head, All-nil, All-tail}
use Rattle.std.proofs.lemmas.List.Kept.{AllPairs-cons}
use Rattle.std.specs.List.{All, AllPairs, list_any}
use Rattle.list_laws.specs.Ordered.{put_in_order}

pub pairs-head : {A : Type 0} (R : A → A → Type 0) (x : A) (xs : List A) → AllPairs R (x ∷ xs) → All (R x) xs
pairs-head R x xs h k d lt = h 0 (suc k) d (omega arith) (omega (arith, lt))

pub pairs-tail : {A : Type 0} (R : A → A → Type 0) (x : A) (xs : List A) → AllPairs R (x ∷ xs) → AllPairs R xs
pairs-tail R x xs h i j d lt within = h (suc i) (suc j) d (omega (arith, lt)) (omega (arith, within))

pub pairs-nil : {A : Type 0} (R : A → A → Type 0) → AllPairs R []
pairs-nil R i j d lt within = absurd (omega (arith, within))

pub All-put : {A : Type 0} (P : A → Type 0) (above : A → A → Bool) (x : A) (ys : List A) → P x → All P ys → All P (put_in_order above x ys)
All-put P above x [] p h = All-cons P x [] p h
All-put {A = A} P above x (y ∷ ys) p h = by (All-put P above x ys p (All-tail P y ys h)) (above x y)
  where
    by : All P (put_in_order above x ys) → (b : Bool) → All P (cond b (y ∷ put_in_order above x ys) (x ∷ y ∷ ys))
    by ih true = All-cons P y (put_in_order above x ys) (All-head P y ys h) ih
    by ih false = All-cons P x (y ∷ ys) p h

pub pairs-put : {A : Type 0} (R : A → A → Type 0) (above : A → A → Bool) (x : A) (ys : List A)
    → ((y : A) → R x y → R y x) → All (R x) ys → AllPairs R ys → AllPairs R (put_in_order above x ys)
pairs-put R above x [] turn h pairs = AllPairs-cons R x [] h pairs
pairs-put {A = A} R above x (y ∷ ys) turn h pairs =
    by (pairs-put R above x ys turn (All-tail (R x) y ys h) (pairs-tail R y ys pairs)) (above x y)
  where
    by : AllPairs R (put_in_order above x ys) → (b : Bool) → AllPairs R (cond b (y ∷ put_in_order above x ys) (x ∷ y ∷ ys))
    by ih true =
        AllPairs-cons R y (put_in_order above x ys)
        (All-put (R y) above x ys (turn y (All-head (R x) y ys h)) (pairs-head R y ys pairs)) ih
    by ih false = AllPairs-cons R x (y ∷ ys) h pairs

-- no item is found, or passes
pub none-found : {A : Type 0} (p : A → Bool) (xs : List A) → find p xs ≡ None → All (λ x. p x ≡ false) xs
none-found p [] e = All-nil (λ x. p x ≡ false)
none-found {A = A} p (x ∷ xs) e = by (none-found p xs) (p x) refl e
  where
    by : (find p xs ≡ None → All (λ y. p y ≡ false) xs) → (b : Bool) → p x ≡ b → cond b (Some x) (find p xs) ≡ None
        → All (λ y. p y ≡ false) (x ∷ xs)
    by ih true s e = cc
    by ih false s e = All-cons (λ y. p y ≡ false) x xs s (ih e)

pub none-passes : {A : Type 0} (p : A → Bool) (xs : List A) → list_any p xs ≡ false → All (λ x. p x ≡ false) xs
none-passes p [] e = All-nil (λ x. p x ≡ false)
none-passes {A = A} p (x ∷ xs) e = by (none-passes p xs) (p x) refl e
  where
    by : (list_any p xs ≡ false → All (λ y. p y ≡ false) xs) → (b : Bool) → p x ≡ b → (b || list_any p xs) ≡ false
        → All (λ y. p y ≡ false) (x ∷ xs)
    by ih true s e = cc
    by ih false s e = All-cons (λ y. p y ≡ false) x xs s (ih e)
