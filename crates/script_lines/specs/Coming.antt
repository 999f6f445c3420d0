-- A line of the text that is still to come.
use Rattle.std.specs.Prelude.{◌≡◌, ◌++◌, ◌+◌, ◌<◌, ◌^◌, ℕ, List, [], ◌∷◌, Option, Some, Bool, MatchBool, length}
use Rattle.vol_disk.specs.declared.Source.{Ghosts}
use Rattle.vol_disk.specs.Contents.{map_told}
use Rattle.script_lines.specs.declared.reader.LineReader.{LineReader}
use Rattle.script_lines.specs.declared.reader.Next.{Next}
use Rattle.script_lines.specs.declared.reader.Next.TheVariants as next
use Rattle.script_lines.specs.Bytes.{IsOneAhead, pending}
use Rattle.script_lines.specs.Text.{IsPiece, kept}

-- what is still to come: what lies in the buffer, and what the source has left
abbrev pub coming : {S : Type 0} → Ghosts S → LineReader → S → Option (List ℕ)
coming g reader source = map_told (λ left. pending reader ++ left) (g.left source)

-- A line was taken, with its newline where it has one. `seen` is what was kept of it.
pub record TookLine (text seen rest : List ℕ) (ended : Bool) : Type 0 where
  pub line : List ℕ
  pub piece : IsPiece line
  pub shown : seen ≡ kept line
  pub taken : MatchBool ended ((text ≡ line) × (rest ≡ []) × (0 < length line)) (text ≡ line ++ 0x0A ∷ rest)

-- Bytes without a newline were taken.
pub record TookPart (text rest : List ℕ) : Type 0 where
  pub part : List ℕ
  pub piece : IsPiece part
  pub taken : text ≡ part ++ rest

-- what came of asking for a line of the text, and the rest of it
abbrev pub IsNext : Next → List ℕ → List ℕ → List ℕ → LineReader → Option (List ℕ) → Type 0
IsNext next.Line text seen rest reader left = TookLine text seen rest reader.ended × MatchBool reader.ended (left ≡ Some []) (Unit {0})
IsNext next.End text seen rest reader left = (text ≡ []) × (rest ≡ []) × (left ≡ Some [])
IsNext next.Failed text seen rest reader left = TookPart text rest × (left ≡ Some rest)
IsNext next.TooMuch text seen rest reader left = TookPart text rest × (reader.consumed ≡ 2 ^ 30) × IsOneAhead rest left
IsNext next.Memory text seen rest reader left = Unit {0}

-- The same, and what was taken is counted.
pub record NextLine (text : List ℕ) (given : Next) (seen : List ℕ) (old new : LineReader) (after left : Option (List ℕ)) : Type 0 where
  pub rest : List ℕ
  pub coming : after ≡ Some rest
  pub count : new.consumed + length rest ≡ old.consumed + length text
  pub answer : IsNext given text seen rest new left
