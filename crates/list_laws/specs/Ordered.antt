-- Lists in order, as values. `above x y` says that x stands behind y.
use Rattle.std.specs.Prelude.{◌≡◌, Bool, true, false, List, [], ◌∷◌, Option, Some, None, if◌then◌else◌}

abbrev pub put_in_order : {A : Type 0} → (A → A → Bool) → A → List A → List A
put_in_order above x [] = x ∷ []
put_in_order above x (y ∷ ys) = if above x y then y ∷ put_in_order above x ys else x ∷ y ∷ ys

-- the items of a list in order
abbrev pub in_order : {A : Type 0} → (A → A → Bool) → List A → List A
in_order above [] = []
in_order above (x ∷ xs) = put_in_order above x (in_order above xs)

-- the items of a list put in order among others
abbrev pub put_all : {A : Type 0} → (A → A → Bool) → List A → List A → List A
put_all above [] others = others
put_all above (x ∷ xs) others = put_in_order above x (put_all above xs others)

-- The least of a list and of one before it.
abbrev pub least : {A : Type 0} → (A → A → Bool) → Option A → List A → Option A
least above best [] = best
least above None (x ∷ xs) = least above (Some x) xs
least above (Some y) (x ∷ xs) = least above (Some (if above y x then x else y)) xs

-- An order in which of each two items that differ one stands above the other.
pub record IsOrder {A : Type 0} (above : A → A → Bool) : Type 0 where
  pub one_way : (x y : A) → above x y ≡ true → above y x ≡ false
  pub same : (x y : A) → above x y ≡ false → above y x ≡ false → x ≡ y
  -- x above z, and y not above z: x is above y
  pub between : (x y z : A) → above x z ≡ true → above y z ≡ false → above x y ≡ true
