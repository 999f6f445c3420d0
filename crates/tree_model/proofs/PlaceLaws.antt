-- Items put in order one after another, each at its place.
use Rattle.std.proofs.Common.{◌≡◌, ◌≤◌, ◌<◌, ◌+◌, ℕ, suc, Bool, true, false, List, [], ◌∷◌, ◌++◌, drop, filter, length, get_or}
use Rattle.std.proofs.Common.{refl, ap, ◌∙◌, arith, if◌then◌else◌}
use Rattle.std.specs.List.{insert}
use Rattle.std.proofs.lemmas.List.{at_drop_more, drop_all}
use Rattle.list_laws.specs.Ordered.{in_order, put_all, put_in_order}

-- how many items at the front of a list x stands behind
abbrev pub rank : {A : Type 0} → (A → A → Bool) → A → List A → ℕ
rank above x [] = 0
rank above x (y ∷ ys) = if above x y then suc (rank above x ys) else 0

pub put-at : {A : Type 0} (above : A → A → Bool) (x : A) (ys : List A) → insert ys (rank above x ys) x ≡ put_in_order above x ys
put-at above x [] = refl
put-at above x (y ∷ ys) = by (put-at above x ys) (above x y) refl
  where
    by : insert ys (rank above x ys) x ≡ put_in_order above x ys → (s : Bool) → above x y ≡ s
        → insert (y ∷ ys) (rank above x (y ∷ ys)) x ≡ put_in_order above x (y ∷ ys)
    by ih true s = rw s (ap (λ l. y ∷ l) ih)
    by ih false s = rw s refl

-- the first place at which x does not stand behind
pub put-here : {A : Type 0} (above : A → A → Bool) (x : A) (ys : List A) (place : ℕ) (y : A) → place < length ys
    → above x (get_or ys place y) ≡ false → place + rank above x (drop place ys) ≡ rank above x ys
    → insert ys place x ≡ put_in_order above x ys
put-here above x ys place y within stops counted =
    let none : rank above x (drop place ys) ≡ 0 =
    at_drop_more (rank above x) ys place y within
    ∙ ap (λ b. if b then suc (rank above x (drop (place + 1) ys)) else 0) stops in
    ap (λ n. insert ys n x) (omega (arith, none, counted)) ∙ put-at above x ys

-- x stands behind all
pub put-last : {A : Type 0} (above : A → A → Bool) (x : A) (ys : List A) (place : ℕ) → length ys ≤ place → place ≤ length ys
    → place + rank above x (drop place ys) ≡ rank above x ys → insert ys (length ys) x ≡ put_in_order above x ys
put-last above x ys place past within counted =
    let none : rank above x (drop place ys) ≡ 0 = ap (rank above x) (drop_all place ys past) in
    ap (λ n. insert ys n x) (omega (arith, past, within, none, counted)) ∙ put-at above x ys

pub in_order-put_all : {A : Type 0} (above : A → A → Bool) (xs : List A) → put_all above xs [] ≡ in_order above xs
in_order-put_all above [] = refl
in_order-put_all above (x ∷ xs) = ap (put_in_order above x) (in_order-put_all above xs)

-- those of two lists that pass a test, in order
pub in_order-both : {A : Type 0} (above : A → A → Bool) (p : A → Bool) (xs ys : List A)
    → put_all above (filter p xs) (put_all above (filter p ys) []) ≡ in_order above (filter p (xs ++ ys))
in_order-both above p [] ys = in_order-put_all above (filter p ys)
in_order-both above p (x ∷ xs) ys = by (in_order-both above p xs ys) (p x) refl
  where
    by : put_all above (filter p xs) (put_all above (filter p ys) []) ≡ in_order above (filter p (xs ++ ys)) → (s : Bool) → p x ≡ s
        → put_all above (filter p (x ∷ xs)) (put_all above (filter p ys) []) ≡ in_order above (filter p (x ∷ xs ++ ys))
    by ih true s = rw s (ap (put_in_order above x) ih)
    by ih false s = rw s ih
