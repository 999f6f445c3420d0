-- HOW A NAME ENDS: by its last unit.
use Rattle.std.proofs.Common.{◌≡◌, ◌∷◌, ◌++◌, ℕ, List, [], refl, ap, ◌∙◌}
use Rattle.tree_model.specs.Cases.{ends_in, is_among}

ends-last : (units front : List ℕ) (last : ℕ) → ends_in units (front ++ last ∷ []) ≡ is_among units last
ends-last units [] last = refl
ends-last units (x ∷ []) last = refl
ends-last units (x ∷ y ∷ ys) last = ends-last units (y ∷ ys) last

pub ends-by : (units name front : List ℕ) (last : ℕ) → name ≡ front ++ last ∷ [] → ends_in units name ≡ is_among units last
ends-by units name front last is = ap (ends_in units) is ∙ ends-last units front last
