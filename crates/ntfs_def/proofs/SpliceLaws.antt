-- A record of which a part gave way to another has the shape, and the attributes before, the given one and those behind.
use Rattle.std.proofs.Common.{◌≡◌, ℕ, zero, suc, ◌+◌, ◌-◌, ◌<◌, ◌≤◌, List, [], ◌∷◌, ◌++◌, None}
use Rattle.std.proofs.Common.{length, take, drop, get_or, inl, inr, ap, subst, sym, refl, ◌∙◌, arith, length-append, length-drop}
use Rattle.std.specs.Prelude.{nat_le}
use Rattle.std.proofs.lemmas.List.{same_lists, length-take-le, get_or_append_left, get_or-append_right, get_or-take, get_or-drop}
use Rattle.std.proofs.lemmas.Option.{get_or_from_slice_get}
use Rattle.std.proofs.lemmas.Bool.{cases_lt, le-leb}
use Rattle.ntfs_def.specs.Record.{used_size}
use Rattle.ntfs_def.specs.Attribute.{Attribute, attribute_at, attribute_len, attribute_place, attributes}
use Rattle.ntfs_def.specs.Moved.{IsMoved}
use Rattle.ntfs_def.specs.Shape.{HasAttributes, HasShape, IsAttribute, IsEnd, header_failing}
use Rattle.ntfs_def.specs.Splice.{IsGiven, IsSpliced, given_attributes}
use Rattle.ntfs_def.proofs.ShapeLaws.{header_failing-length, header_failing-used}
use Rattle.ntfs_def.proofs.AttributeLaws.{length-attributes, slice_get-attributes}
use Rattle.ntfs_def.proofs.PlaceLaws.{attribute_place-bounded, place-order}
use Rattle.ntfs_def.proofs.MovedLaws.{IsWhole-moved, attribute_at-moved, attribute_len-moved, u32_at-moved}

-- i attributes stand before the place, then a that go, and then the rest. b are given, none or one. Any of them may be 0.
module _ (old new : List ℕ) (count i a b rest was now : ℕ) (shape : HasShape old count) (split : rest + (i + a) ≡ count)
    (taken : attribute_place old (i + a) ≡ attribute_place old i + was) (put : IsGiven new (attribute_place old i) b now)
    (fits : used_size old + now ≤ 1024 + was) (x : IsSpliced old new (attribute_place old i) was now) where
  all : length old ≡ 1024
  all = header_failing-length old shape.header

  used : used_size old ≤ 1024
  used = header_failing-used old shape.header

  place-high : (j : ℕ) → j ≤ count → attribute_place old j + 4 ≤ used_size old
  place-high j le = (attribute_place-bounded old count j shape le).high

  -- an attribute before stays
  IsMoved-before : (j : ℕ) → j < i
      → IsMoved old new (attribute_place old j) (attribute_place old j) (attribute_len old (attribute_place old j))
  IsMoved-before j lt =
      let first = place-order old 0 j (omega arith) in
      let next = place-order old (suc j) i (omega arith) in
      let end = place-high i (omega arith) in
      record {
        same = λ k m from to e. let is : m ≡ k = omega arith in
            ap (λ (q : ℕ). get_or new q 0) is ∙ x.before k (omega arith) (omega arith);
        inside = omega (arith, all, used);
        there = omega (arith, x.len, all, used);
      }

  -- one behind moves
  IsMoved-behind : (j to : ℕ) → i + a ≤ j → j < count → to + was ≡ attribute_place old j + now
      → IsMoved old new (attribute_place old j) to (attribute_len old (attribute_place old j))
  IsMoved-behind j to le lt e =
      let low = place-order old (i + a) j le in
      let here = (shape.each j lt).below_used in
      record {
        same = λ k m from up d. x.behind k m (omega (arith, taken)) (omega arith) (omega arith);
        inside = omega (arith, all, used);
        there = omega (arith, x.len, all, used, fits);
      }

  -- the places before the change stay
  pub place-before : (j : ℕ) → j ≤ i → attribute_place new j ≡ attribute_place old j
  place-before zero le = x.first
  place-before (suc j) le =
      let h = place-before j (omega arith) in
      let m = attribute_len-moved old new _ _ ((shape.each j (omega arith)).whole) (IsMoved-before j (omega arith)) in
      ap (λ p. p + attribute_len new p) h ∙ ap (λ q. attribute_place old j + q) m

  -- what is given, where it is one
  given-kind : (more : ℕ) → suc more ≡ b → IsGiven new (attribute_place old i) (suc more) now
  given-kind more e = subst (λ n. IsGiven new (attribute_place old i) n now) (sym e) put

  none-given : 0 ≡ b → now ≡ 0
  none-given e = subst (λ n. IsGiven new (attribute_place old i) n now) (sym e) put

  -- where what follows begins
  place-next : (n : ℕ) → n ≡ b → attribute_place new (n + i) + was ≡ attribute_place old (i + a) + now
  place-next zero e =
      let is : 0 + i ≡ i = omega arith in
      let here : attribute_place new (0 + i) ≡ attribute_place old i = ap (attribute_place new) is ∙ place-before i (omega arith) in
      omega (arith, here, taken, none-given e)
  place-next (suc more) e =
      let one = given-kind more e in
      let none : more ≡ 0 = one.0 in
      let is : suc more + i ≡ suc i = omega arith in
      let step : attribute_place new (suc i) ≡ attribute_place old i + now =
      ap (λ p. p + attribute_len new p) (place-before i (omega arith)) ∙ ap (λ m. attribute_place old i + m) one.2 in
      omega (arith, ap (attribute_place new) is, step, taken)

  place-behind : (m : ℕ) → m ≤ rest → attribute_place new (m + (b + i)) + was ≡ attribute_place old (m + (i + a)) + now
  place-behind zero le =
      let p = ap (attribute_place new) (let e : 0 + (b + i) ≡ b + i = omega arith in e) in
      let q = ap (attribute_place old) (let e : 0 + (i + a) ≡ i + a = omega arith in e) in
      omega (arith, p, q, place-next b refl)
  place-behind (suc m) le =
      let h = place-behind m (omega arith) in
      let w = (shape.each (m + (i + a)) (omega arith)).whole in
      let moved = IsMoved-behind (m + (i + a)) (attribute_place new (m + (b + i))) (omega arith) (omega arith) h in
      let p = ap (attribute_place new) (let e : suc m + (b + i) ≡ suc (m + (b + i)) = omega arith in e) in
      let q = ap (attribute_place old) (let e : suc m + (i + a) ≡ suc (m + (i + a)) = omega arith in e) in
      omega (arith, p, q, h, attribute_len-moved old new _ _ w moved)

  IsAttribute-before : (j : ℕ) → j < i → IsAttribute new (attribute_place new j)
  IsAttribute-before j lt =
      let w = (shape.each j (omega arith)).whole in
      let m = IsMoved-before j lt in
      let next = place-order old (suc j) i (omega arith) in
      let order = place-order old i (i + a) (omega arith) in
      let end = place-high (i + a) (omega arith) in
      subst (IsAttribute new) (sym (place-before j (omega arith))) (record {
        whole = IsWhole-moved old new _ _ w m;
        below_used = omega (arith, attribute_len-moved old new _ _ w m, x.used, taken);
      })

  IsAttribute-behind : (m : ℕ) → m < rest → IsAttribute new (attribute_place new (m + (b + i)))
  IsAttribute-behind m lt =
      let h = place-behind m (omega arith) in
      let e = shape.each (m + (i + a)) (omega arith) in
      let moved = IsMoved-behind (m + (i + a)) (attribute_place new (m + (b + i))) (omega arith) (omega arith) h in
      record {
        whole = IsWhole-moved old new _ _ e.whole moved;
        below_used = omega (arith, attribute_len-moved old new _ _ e.whole moved, e.below_used, x.used, h);
      }

  IsAttribute-given : (n : ℕ) → n ≡ b → (j : ℕ) → i ≤ j → j < n + i → IsAttribute new (attribute_place new j)
  IsAttribute-given zero e j low high = absurd (omega arith)
  IsAttribute-given (suc more) e j low high =
      let one = given-kind more e in
      let none : more ≡ 0 = one.0 in
      let is : j ≡ i = omega arith in
      let order = place-order old i (i + a) (omega arith) in
      let end = place-high (i + a) (omega arith) in
      let here : attribute_place new j ≡ attribute_place old i = ap (attribute_place new) is ∙ place-before i (omega arith) in
      subst (IsAttribute new) (sym here) (record { whole = one.1; below_used = omega (arith, one.2, x.used, taken) })

  each : HasAttributes new (rest + (b + i))
  each j lt = elim (cases_lt j i) [
    | inl low ↦ IsAttribute-before j low
    | inr high ↦ elim (cases_lt j (b + i)) [
      | inl here ↦ IsAttribute-given b refl j high here
      | inr behind ↦
          let e : j - (b + i) + (b + i) ≡ j = omega arith in
          subst (λ k. IsAttribute new (attribute_place new k)) e (IsAttribute-behind (j - (b + i)) (omega arith))
    ]
  ]

  last-place : attribute_place new (rest + (b + i)) + was ≡ attribute_place old count + now
  last-place = omega (arith, place-behind rest (omega arith), ap (attribute_place old) split)

  last : IsEnd new (attribute_place new (rest + (b + i)))
  last =
      let end = attribute_place old count in
      let low = place-order old (i + a) count (omega arith) in
      let place = last-place in
      let moved : IsMoved old new end (attribute_place new (rest + (b + i))) 4 = record {
        same = λ k m from to e. x.behind k m (omega (arith, taken)) (omega (arith, shape.last.below_used)) (omega arith);
        inside = omega (arith, shape.last.below_used, all, used);
        there = omega (arith, shape.last.below_used, x.len, all, used, fits);
      } in
      record {
        mark = u32_at-moved old new end _ 4 end _ moved (omega arith) (omega arith) (omega arith) ∙ shape.last.mark;
        below_used = omega (arith, shape.last.below_used, x.used);
      }

  header : header_failing new ≡ None
  header =
      let room : nat_le (used_size new) 1024 ≡ nat_le (used_size old) 1024 =
      le-leb (used_size new) 1024 (omega (arith, x.used, fits)) ∙ sym (le-leb (used_size old) 1024 used) in
      rw (x.len, x.array, x.numbers, x.first, room, x.allocated) shape.header

  pub HasShape-spliced : HasShape new (rest + (b + i))
  HasShape-spliced = record { header = header; each = each; last = last }

  -- the attributes one by one
  at-old : (j : ℕ) (d : Attribute) → j < count → get_or (attributes old) j d ≡ attribute_at old (attribute_place old j)
  at-old j d lt = get_or_from_slice_get (attributes old) j _ d (slice_get-attributes old count j shape lt)

  at-new : (j : ℕ) (d : Attribute) → j < rest + (b + i) → get_or (attributes new) j d ≡ attribute_at new (attribute_place new j)
  at-new j d lt = get_or_from_slice_get (attributes new) j _ d (slice_get-attributes new (rest + (b + i)) j HasShape-spliced lt)

  length-old : length (attributes old) ≡ count
  length-old = length-attributes old count shape

  length-new : length (attributes new) ≡ rest + (b + i)
  length-new = length-attributes new (rest + (b + i)) HasShape-spliced

  front : List Attribute
  front = take i (attributes old)

  middle : List Attribute
  middle = given_attributes new (attribute_place old i) b

  back : List Attribute
  back = drop (i + a) (attributes old)

  length-front : length front ≡ i
  unfolding front
  length-front = length-take-le i (attributes old) (omega (arith, length-old))

  length-given : (n : ℕ) → n ≡ b → length (given_attributes new (attribute_place old i) n) ≡ n
  length-given zero e = refl
  length-given (suc more) e = let none : more ≡ 0 = (given-kind more e).0 in omega arith

  length-middle : length middle ≡ b
  unfolding middle
  length-middle = length-given b refl

  -- the given one stands in its place
  at-given : (n : ℕ) → n ≡ b → (j : ℕ) (d : Attribute) → i ≤ j → j < n + i
      → get_or (given_attributes new (attribute_place old i) n) (j - i) d ≡ attribute_at new (attribute_place new j)
  at-given zero e j d low high = absurd (omega arith)
  at-given (suc more) e j d low high =
      let none : more ≡ 0 = (given-kind more e).0 in
      let is : j ≡ i = omega arith in
      let zeroth : j - i ≡ 0 = omega arith in
      let here : attribute_place new j ≡ attribute_place old i = ap (attribute_place new) is ∙ place-before i (omega arith) in
      ap (λ k. get_or (attribute_at new (attribute_place old i) ∷ []) k d) zeroth ∙ ap (attribute_at new) (sym here)

  element-before : (j : ℕ) (d : Attribute) → j < i → get_or (attributes new) j d ≡ get_or (front ++ (middle ++ back)) j d
  unfolding front
  element-before j d low =
      at-new j d (omega arith) ∙ ap (attribute_at new) (place-before j (omega arith))
      ∙ attribute_at-moved old new _ _ ((shape.each j (omega arith)).whole) (IsMoved-before j low)
      ∙ sym (get_or_append_left front (middle ++ back) d j (omega (arith, length-front))
      ∙ get_or-take i (attributes old) j d low ∙ at-old j d (omega arith))

  -- what stands behind the front
  element-past : (j : ℕ) (d : Attribute) → i ≤ j → get_or (front ++ (middle ++ back)) j d ≡ get_or (middle ++ back) (j - i) d
  element-past j d high = get_or-append_right front (middle ++ back) i j d length-front high

  element-given : (j : ℕ) (d : Attribute) → i ≤ j → j < b + i
      → get_or (attributes new) j d ≡ get_or (front ++ (middle ++ back)) j d
  unfolding middle
  element-given j d high here =
      at-new j d (omega arith)
      ∙ sym (element-past j d high ∙ get_or_append_left middle back d (j - i) (omega (arith, length-middle))
      ∙ at-given b refl j d high here)

  -- attribute n of the rest
  element-back : (n : ℕ) (d : Attribute) → n < rest
      → attribute_at new (attribute_place new (n + (b + i))) ≡ get_or back n d
  unfolding back
  element-back n d lt =
      let is : i + a + n ≡ n + (i + a) = omega arith in
      let moved = IsMoved-behind (n + (i + a)) (attribute_place new (n + (b + i))) (omega arith) (omega arith)
      (place-behind n (omega arith)) in
      attribute_at-moved old new _ _ ((shape.each (n + (i + a)) (omega arith)).whole) moved
      ∙ sym (get_or-drop (i + a) (attributes old) n d ∙ ap (λ q. get_or (attributes old) q d) is ∙ at-old (n + (i + a)) d (omega arith))

  element-behind : (j : ℕ) (d : Attribute) → j < rest + (b + i) → b + i ≤ j
      → get_or (attributes new) j d ≡ get_or (front ++ (middle ++ back)) j d
  element-behind j d lt behind =
      let is : j ≡ (j - (b + i)) + (b + i) = omega arith in
      let left : j - i - b ≡ j - (b + i) = omega arith in
      at-new j d lt ∙ ap (λ q. attribute_at new (attribute_place new q)) is
      ∙ element-back (j - (b + i)) d (omega arith)
      ∙ sym (element-past j d (omega arith) ∙ get_or-append_right middle back b (j - i) d length-middle (omega arith)
      ∙ ap (λ q. get_or back q d) left)

  element : (j : ℕ) (d : Attribute) → j < rest + (b + i) → get_or (attributes new) j d ≡ get_or (front ++ (middle ++ back)) j d
  element j d lt = elim (cases_lt j i) [
    | inl low ↦ element-before j d low
    | inr high ↦ elim (cases_lt j (b + i)) [
      | inl here ↦ element-given j d high here
      | inr behind ↦ element-behind j d lt behind
    ]
  ]

  length-parts : length (front ++ (middle ++ back)) ≡ rest + (b + i)
  unfolding back
  length-parts = omega (
    arith,
    length-append front (middle ++ back),
    length-append middle back,
    length-drop (i + a) (attributes old),
    length-front,
    length-middle,
    length-old,
  )

  pub attributes-spliced :
      attributes new ≡ take i (attributes old) ++ (given_attributes new (attribute_place old i) b ++ drop (i + a) (attributes old))
  unfolding front middle back
  attributes-spliced = same_lists _ _ (length-new ∙ sym length-parts) (λ j d lt. element j d (omega (arith, length-new)))

-- where no byte went and none came, the attributes stay
module _ (old new : List ℕ) (count : ℕ) (shape : HasShape old count) (x : IsSpliced old new (attribute_place old 0) 0 0) where
  fits : used_size old + 0 ≤ 1024 + 0
  fits = omega (arith, header_failing-used old shape.header)

  pub HasShape-unmoved : HasShape new count
  HasShape-unmoved =
      let all : count + 0 ≡ count = omega arith in
      subst (HasShape new) all (HasShape-spliced old new count 0 0 0 count 0 0 shape all (omega arith) refl fits x)

  pub attributes-unmoved : attributes new ≡ attributes old
  attributes-unmoved = attributes-spliced old new count 0 0 0 count 0 0 shape (omega arith) (omega arith) refl fits x
