-- A list in order is what its items are in order, whichever way they came.
use Rattle.std.proofs.Common.{◌≡◌, ◌&&◌, not, zero, suc, Bool, true, false, List, [], ◌∷◌, ◌++◌, refl, sym, ap, ◌∙◌, arith}
use Rattle.std.proofs.lemmas.Bool.{and_parts, not-true}
use Rattle.std.specs.List.{Contains, count_by}
use Rattle.ntfs_def.specs.IndexTree.{Each}
use Rattle.list_laws.specs.SameItems.{SameItems}
use Rattle.list_laws.proofs.FindLaws.{count-cons, count-yes, passing}
use Rattle.list_laws.proofs.SameItemsLaws.{count-append}
use Rattle.list_laws.specs.Ordered.{IsOrder, in_order, put_in_order}
use Rattle.list_laws.proofs.OrderedLaws.{put-put}

-- no item is above a later one
abbrev pub IsRising : {A : Type 0} → (A → A → Bool) → List A → Type 0
IsRising above [] = Unit {0}
IsRising above (x ∷ xs) = Each (λ y. above x y ≡ false) xs × IsRising above xs

-- an item among others
record IsAmong {A : Type 0} (x : A) (xs : List A) : Type 0 where
  front : List A
  back : List A
  whole : xs ≡ front ++ (x ∷ back)

among : {A : Type 0} (x : A) (xs : List A) → Contains xs x → IsAmong x xs
among x [] (k, l, is) = absurd (omega arith)
among x (y ∷ ys) (zero, l, is) = record { front = []; back = ys; whole = ap (λ z. z ∷ ys) is }
among x (y ∷ ys) (suc k, l, is) =
    let r = among x ys (k, omega arith, is) in
    record { front = y ∷ r.front; back = r.back; whole = ap (λ zs. y ∷ zs) r.whole }

module _ {A : Type 0} {above : A → A → Bool} (o : IsOrder above) where
  -- an item goes in from anywhere
  in_order-moved : (xs : List A) (x : A) (ys : List A) → in_order above (xs ++ (x ∷ ys)) ≡ put_in_order above x (in_order above (xs ++ ys))
  in_order-moved [] x ys = refl
  in_order-moved (z ∷ xs) x ys = ap (put_in_order above z) (in_order-moved xs x ys) ∙ put-put o z x (in_order above (xs ++ ys))

  not_itself : (x : A) → above x x ≡ false
  not_itself x = by (above x x) refl
    where
      by : (s : Bool) → above x x ≡ s → above x x ≡ false
      by true e = o.one_way x x e
      by false e = e

  -- whether two items are one
  abbrev is : A → A → Bool
  is x y = not (above x y) && not (above y x)

  is_itself : (x : A) → is x x ≡ true
  is_itself x = ap (λ b. not b && not b) (not_itself x)

  is_same : (x y : A) → is x y ≡ true → x ≡ y
  is_same x y h =
      let p = and_parts (not (above x y)) (not (above y x)) h in
      o.same x y (not-true (above x y) p.0) (not-true (above y x) p.1)

  put_first : (x : A) (xs : List A) → Each (λ y. above x y ≡ false) xs → put_in_order above x xs ≡ x ∷ xs
  put_first x [] h = refl
  put_first x (y ∷ ys) h = let e = h.0 in rw e refl

  -- Without an item that both have they are the same items still.
  less_one : (y : A) (ys front back xs : List A) → xs ≡ front ++ (y ∷ back) → SameItems (y ∷ ys) xs → SameItems ys (front ++ back)
  less_one y ys front back xs whole h = record {
    counts = λ p.
        let a = h.counts p in
        let b = ap (count_by p) whole in
        let c = count-append p front (y ∷ back) in
        let d = count-cons p y back in
        let e = count-cons p y ys in
        let f = count-append p front back in
        omega arith;
  }

  pub in_order-same : (ys xs : List A) → SameItems ys xs → IsRising above ys → in_order above xs ≡ ys
  in_order-same [] [] h r = refl
  in_order-same [] (x ∷ xs) h r =
      let a = h.counts (λ _. true) in
      let b = count-yes (λ _. true) x xs refl in
      absurd (omega arith)
  in_order-same (y ∷ ys) xs h r =
      let a = h.counts (is y) in
      let b = count-yes (is y) y ys (is_itself y) in
      let w = passing (is y) xs (omega arith) in
      let found = among w.0 xs w.1 in
      let same : xs ≡ found.front ++ (y ∷ found.back) =
      found.whole ∙ ap (λ z. found.front ++ (z ∷ found.back)) (sym (is_same y w.0 w.2)) in
      let rest = in_order-same ys (found.front ++ found.back) (less_one y ys found.front found.back xs same h) r.1 in
      ap (in_order above) same ∙ in_order-moved found.front y found.back ∙ ap (put_in_order above y) rest ∙ put_first y ys r.0
