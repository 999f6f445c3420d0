-- Two lists of the same items, each as often, in any order.
use Rattle.std.specs.Prelude.{◌≡◌, Bool, List, count_by}

-- whatever is asked of an item, as many of one list pass as of the other
pub record SameItems {A : Type 0} (xs ys : List A) : Type 0 where
  pub counts : (p : A → Bool) → count_by p ys ≡ count_by p xs
