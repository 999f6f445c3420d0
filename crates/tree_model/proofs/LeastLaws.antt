-- The least item of a list is what stands first when the list is in order.
use Rattle.std.proofs.Common.{◌≡◌, List, [], ◌∷◌, ◌++◌, ◌&&◌, Bool, true, false, Option, Some, None, filter, find, refl, sym, ap, ◌∙◌}
use Rattle.std.proofs.Common.{if◌then◌else◌}
use Rattle.list_laws.specs.Ordered.{IsOrder, in_order, put_in_order, least}

-- the least of two lists, one after the other
pub least-append : {A : Type 0} (above : A → A → Bool) (best : Option A) (xs ys : List A)
    → least above (least above best xs) ys ≡ least above best (xs ++ ys)
least-append above best [] ys = refl
least-append above None (x ∷ xs) ys = least-append above (Some x) xs ys
least-append above (Some y) (x ∷ xs) ys = least-append above (Some (if above y x then x else y)) xs ys

module _ {A : Type 0} {above : A → A → Bool} (o : IsOrder above) where
  -- x stands behind none of these
  abbrev IsFront : A → List A → Type 0
  IsFront x [] = Unit {0}
  IsFront x (y ∷ ys) = (above x y ≡ false) × IsFront x ys

  abbrev Ascends : List A → Type 0
  Ascends [] = Unit {0}
  Ascends (y ∷ ys) = IsFront y ys × Ascends ys

  -- x is not above y, nor y above z: x is not above z
  chain : (x y z : A) → above x y ≡ false → above y z ≡ false → above x z ≡ false
  chain x y z xy yz = by (above x z) refl
    where
      by : (s : Bool) → above x z ≡ s → above x z ≡ false
      by false e = e
      by true e = let xy' = o.between x y z e yz in cc

  front-chain : (x y : A) (zs : List A) → above x y ≡ false → IsFront y zs → IsFront x zs
  front-chain x y [] xy front = tt
  front-chain x y (z ∷ zs) xy front = (chain x y z xy front.0, front-chain x y zs xy front.1)

  front-put : (x y : A) (zs : List A) → above y x ≡ false → IsFront y zs → IsFront y (put_in_order above x zs)
  front-put x y [] yx front = (yx, tt)
  front-put x y (z ∷ zs) yx front = by (front-put x y zs yx front.1) (above x z) refl
    where
      by : IsFront y (put_in_order above x zs) → (s : Bool) → above x z ≡ s → IsFront y (put_in_order above x (z ∷ zs))
      by ih true s = rw s (front.0, ih)
      by ih false s = rw s (yx, (front.0, front.1))

  ascends-put : (x : A) (ys : List A) → Ascends ys → Ascends (put_in_order above x ys)
  ascends-put x [] a = (tt, tt)
  ascends-put x (y ∷ ys) a = by (ascends-put x ys a.1) (above x y) refl
    where
      by : Ascends (put_in_order above x ys) → (s : Bool) → above x y ≡ s → Ascends (put_in_order above x (y ∷ ys))
      by ih true s = rw s (front-put x y ys (o.one_way x y s) a.0, ih)
      by ih false s = rw s ((s, front-chain x y ys s a.0), (a.0, a.1))

  pub ascends-in_order : (xs : List A) → Ascends (in_order above xs)
  ascends-in_order [] = tt
  ascends-in_order (x ∷ xs) = ascends-put x (in_order above xs) (ascends-in_order xs)

  -- the first of x and of what is found behind
  abbrev first : A → Option A → Option A
  first x None = Some x
  first x (Some y) = Some (if above x y then y else x)

  -- what is found among items that x stands not above is not before x
  first-front : (p : A → Bool) (x : A) (ys : List A) → IsFront x ys → first x (find p ys) ≡ Some x
  first-front p x [] front = refl
  first-front p x (y ∷ ys) front = by (first-front p x ys front.1) (p y) refl
    where
      by : first x (find p ys) ≡ Some x → (s : Bool) → p y ≡ s → first x (find p (y ∷ ys)) ≡ Some x
      by ih true s = rw (s, front.0) refl
      by ih false s = rw s ih

  abbrev found_with : Bool → A → Option A → Option A
  found_with true x found = first x found
  found_with false x found = found

  find-put : (p : A → Bool) (x : A) (ys : List A) → Ascends ys → find p (put_in_order above x ys) ≡ found_with (p x) x (find p ys)
  find-put p x [] a = by (p x) refl
    where
      by : (s : Bool) → p x ≡ s → find p (x ∷ []) ≡ found_with (p x) x None
      by true s = rw s refl
      by false s = rw s refl
  find-put p x (y ∷ ys) a = by (find-put p x ys a.1) (above x y) (p x) (p y) refl refl refl
    where
      by : find p (put_in_order above x ys) ≡ found_with (p x) x (find p ys) → (s t u : Bool) → above x y ≡ s → p x ≡ t → p y ≡ u
          → find p (put_in_order above x (y ∷ ys)) ≡ found_with (p x) x (find p (y ∷ ys))
      by ih true true true s t u = rw (s, u, t) (rw s refl)
      by ih true false true s t u = rw (s, u, t) refl
      by ih true t' false s t u = rw (s, u) ih
      by ih false true u' s t u = rw (s, t) (sym (first-front p x (y ∷ ys) (s, front-chain x y ys s a.0)))
      by ih false false u' s t u = rw (s, t) refl

  -- x before the first of the rest
  least-first : (x : A) (xs : List A) → first x (least above None xs) ≡ least above (Some x) xs
  least-first x [] = refl
  least-first x (y ∷ ys) = ap (first x) (sym (least-first y ys)) ∙ two (least above None ys) ∙ least-first (if above x y then y else x) ys
    where
      two : (h : Option A) → first x (first y h) ≡ first (if above x y then y else x) h
      two None = refl
      two (Some z) = by (above y z) (above x y) refl refl
        where
          by : (s t : Bool) → above y z ≡ s → above x y ≡ t → first x (first y (Some z)) ≡ first (if above x y then y else x) (Some z)
          by true true s t = let xz = o.between x z y t (o.one_way y z s) in rw (s, t, xz, s) refl
          by true false s t = rw (s, t) refl
          by false true s t = rw (s, t, s) refl
          by false false s t = let xz = chain x y z t s in rw (s, t, xz) refl

  least-kept : (p : A → Bool) (x : A) (xs : List A)
      → found_with (p x) x (least above None (filter p xs)) ≡ least above None (filter p (x ∷ xs))
  least-kept p x xs = by (p x) refl
    where
      by : (s : Bool) → p x ≡ s → found_with (p x) x (least above None (filter p xs)) ≡ least above None (filter p (x ∷ xs))
      by true s = rw s (least-first x (filter p xs))
      by false s = rw s refl

  -- the first that passes among the items in order is the least that passes
  pub find-in_order : (p : A → Bool) (xs : List A) → find p (in_order above xs) ≡ least above None (filter p xs)
  find-in_order p [] = refl
  find-in_order p (x ∷ xs) =
      find-put p x (in_order above xs) (ascends-in_order xs)
      ∙ ap (found_with (p x) x) (find-in_order p xs)
      ∙ least-kept p x xs

  -- items that pass two tests, in two lists
  twice : (a p : A → Bool) (xs : List A) → filter (λ x. a x && p x) xs ≡ filter p (filter a xs)
  twice a p [] = refl
  twice a p (x ∷ xs) = by (twice a p xs) (a x) refl
    where
      by : filter (λ y. a y && p y) xs ≡ filter p (filter a xs) → (s : Bool) → a x ≡ s
          → filter (λ y. a y && p y) (x ∷ xs) ≡ filter p (filter a (x ∷ xs))
      by ih true s = rw (s, ih) refl
      by ih false s = rw (s, ih) refl

  both : (a p : A → Bool) (xs ys : List A) → filter (λ x. a x && p x) xs ++ filter (λ x. a x && p x) ys ≡ filter p (filter a (xs ++ ys))
  both a p [] ys = twice a p ys
  both a p (x ∷ xs) ys = by (both a p xs ys) (a x) (p x) refl refl
    where
      by : filter (λ y. a y && p y) xs ++ filter (λ y. a y && p y) ys ≡ filter p (filter a (xs ++ ys)) → (s t : Bool) → a x ≡ s → p x ≡ t
          → filter (λ y. a y && p y) (x ∷ xs) ++ filter (λ y. a y && p y) ys ≡ filter p (filter a (x ∷ xs ++ ys))
      by ih true true s t = rw (s, t) (ap (λ l. x ∷ l) ih)
      by ih true false s t = rw (s, t) ih
      by ih false t s e = rw s ih

  pub least-both : (a p : A → Bool) (xs ys : List A)
      → least above (least above None (filter (λ x. a x && p x) xs)) (filter (λ x. a x && p x) ys)
      ≡ find p (in_order above (filter a (xs ++ ys)))
  least-both a p xs ys =
      least-append above None (filter (λ x. a x && p x) xs) (filter (λ x. a x && p x) ys)
      ∙ ap (least above None) (both a p xs ys)
      ∙ sym (find-in_order p (filter a (xs ++ ys)))

  -- items that pass a test, of a list in order
  front-filter : (p : A → Bool) (x : A) (ys : List A) → IsFront x ys → IsFront x (filter p ys)
  front-filter p x [] front = tt
  front-filter p x (y ∷ ys) front = by (front-filter p x ys front.1) (p y) refl
    where
      by : IsFront x (filter p ys) → (s : Bool) → p y ≡ s → IsFront x (filter p (y ∷ ys))
      by ih true s = rw s (front.0, ih)
      by ih false s = rw s ih

  put-front : (x : A) (ys : List A) → IsFront x ys → put_in_order above x ys ≡ x ∷ ys
  put-front x [] front = refl
  put-front x (y ∷ ys) front = let e = front.0 in rw e refl

  abbrev put_if : Bool → A → List A → List A
  put_if true x ys = put_in_order above x ys
  put_if false x ys = ys

  filter-put : (p : A → Bool) (x : A) (ys : List A) → Ascends ys → filter p (put_in_order above x ys) ≡ put_if (p x) x (filter p ys)
  filter-put p x [] a = by (p x) refl
    where
      by : (s : Bool) → p x ≡ s → filter p (x ∷ []) ≡ put_if (p x) x []
      by true s = rw s refl
      by false s = rw s refl
  filter-put p x (y ∷ ys) a = by (filter-put p x ys a.1) (above x y) (p x) (p y) refl refl refl
    where
      by : filter p (put_in_order above x ys) ≡ put_if (p x) x (filter p ys) → (s t u : Bool) → above x y ≡ s → p x ≡ t → p y ≡ u
          → filter p (put_in_order above x (y ∷ ys)) ≡ put_if (p x) x (filter p (y ∷ ys))
      by ih true true true s t u = let e = ih ∙ ap (λ b. put_if b x (filter p ys)) t in rw (s, t, u) (rw s (ap (λ l. y ∷ l) e))
      by ih true false true s t u = let e = ih ∙ ap (λ b. put_if b x (filter p ys)) t in rw (s, t, u) (ap (λ l. y ∷ l) e)
      by ih true t' false s t u = rw (s, u) ih
      by ih false true u' s t u =
          let front = front-filter p x (y ∷ ys) (s, front-chain x y ys s a.0) in
          let e = put-front x (filter p (y ∷ ys)) front in
          rw (s, t) (sym e)
      by ih false false u' s t u = rw (s, t) refl

  pub filter-in_order : (p : A → Bool) (xs : List A) → filter p (in_order above xs) ≡ in_order above (filter p xs)
  filter-in_order p [] = refl
  filter-in_order p (x ∷ xs) =
      filter-put p x (in_order above xs) (ascends-in_order xs) ∙ ap (put_if (p x) x) (filter-in_order p xs) ∙ by (p x) refl
    where
      by : (s : Bool) → p x ≡ s → put_if (p x) x (in_order above (filter p xs)) ≡ in_order above (filter p (x ∷ xs))
      by true s = rw s refl
      by false s = rw s refl
