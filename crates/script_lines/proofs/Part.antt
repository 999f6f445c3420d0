-- A line that has not ended: what was taken of it, and what is to come.
use Rattle.std.specs.Prelude.{◌≡◌, ◌+◌, ◌++◌, ℕ, List, length, Option, Some}
use Rattle.script_lines.specs.Text.{IsPiece, kept}

pub record Part (text line : List ℕ) (old new : ℕ) (after : Option (List ℕ)) : Type 0 where
  pub part : List ℕ
  pub rest : List ℕ
  pub piece : IsPiece part
  pub whole : text ≡ part ++ rest
  pub coming : after ≡ Some rest
  pub shown : line ≡ kept part
  pub count : new + length rest ≡ old + length text
