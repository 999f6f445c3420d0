-- BYTES WRITTEN INTO A VALUE: each byte of it then.
use Rattle.std.proofs.Common.{◌≡◌, ◌+◌, ◌-◌, ◌<◌, ◌≤◌, ◌++◌, ℕ, List, length, take, drop, refl, ap, ◌∙◌, arith, get_or, get_or-drop}
use Rattle.std.proofs.Common.{get_or-take}
use Rattle.std.proofs.lemmas.List.{get_or_append_left, get_or-append_right, length-take-le}
use Rattle.attr_view.specs.Values.{overwritten}

module _ (value : List ℕ) (at : ℕ) (from : List ℕ) (fits : at + length from ≤ length value) where
  abbrev behind : List ℕ
  behind = drop (at + length from) value

  front : length (take at value) ≡ at
  front = length-take-le at value (omega (arith, fits))

  pub byte-before : (k : ℕ) → k < at → get_or (overwritten value at from) k 0 ≡ get_or value k 0
  byte-before k l =
      get_or_append_left (take at value) (from ++ behind) 0 k (omega (arith, front, l)) ∙ get_or-take at value k 0 l

  pub byte-in : (j k : ℕ) → j ≡ at + k → k < length from → get_or (overwritten value at from) j 0 ≡ get_or from k 0
  byte-in j k e l =
      get_or-append_right (take at value) (from ++ behind) at j 0 front (omega (arith, e))
      ∙ ap (λ i. get_or (from ++ behind) i 0) (omega (arith, e))
      ∙ get_or_append_left from behind 0 k l

  pub byte-behind : (k : ℕ) → at + length from ≤ k → get_or (overwritten value at from) k 0 ≡ get_or value k 0
  byte-behind k l =
      get_or-append_right (take at value) (from ++ behind) at k 0 front (omega (arith, l))
      ∙ get_or-append_right from behind (length from) (k - at) 0 refl (omega (arith, l))
      ∙ get_or-drop (at + length from) value (k - at - length from) 0
      ∙ ap (λ i. get_or value i 0) (omega (arith, l))
