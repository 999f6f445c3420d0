-- A list with one piece of it replaced: an insertion where `was` is empty, a removal where `now` is.
use Rattle.std.specs.Prelude.{◌≡◌, List, ◌++◌}

pub record Replaces {A : Type 0} (old new was now : List A) : Type 0 where
  pub before : List A
  pub after : List A
  pub old_is : old ≡ before ++ (was ++ after)
  pub new_is : new ≡ before ++ (now ++ after)
