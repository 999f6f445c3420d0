-- The lines of a text. Each ends with the byte 0A; a last one may go without.
use Rattle.std.specs.Prelude.{◌≢◌, ◌==◌, ℕ, List, [], ◌∷◌, if◌then◌else◌, take, filter, not, Bool, false}

-- a byte stands in front of the first of these lines
abbrev pub onto : ℕ → List (List ℕ) → List (List ℕ)
onto byte [] = (byte ∷ []) ∷ []
onto byte (line ∷ lines) = (byte ∷ line) ∷ lines

-- the same, where a line that has not ended is none
abbrev pub onto_ended : ℕ → List (List ℕ) → List (List ℕ)
onto_ended byte [] = []
onto_ended byte (line ∷ lines) = (byte ∷ line) ∷ lines

-- the lines of a text; a last one without a newline counts
abbrev pub lines_of : List ℕ → List (List ℕ)
lines_of [] = []
lines_of (byte ∷ bytes) = if byte == 0x0A then [] ∷ lines_of bytes else onto byte (lines_of bytes)

-- the lines that end within a text
abbrev pub ended_lines : List ℕ → List (List ℕ)
ended_lines [] = []
ended_lines (byte ∷ bytes) = if byte == 0x0A then [] ∷ ended_lines bytes else onto_ended byte (ended_lines bytes)

-- the line is neither empty nor a comment, which begins with `#`
abbrev pub is_command : List ℕ → Bool
is_command [] = false
is_command (byte ∷ bytes) = not (byte == 0x23)

abbrev pub commands : List (List ℕ) → List (List ℕ)
commands lines = filter is_command lines

-- no newline is in it
abbrev pub IsPiece : List ℕ → Type 0
IsPiece [] = Unit {0}
IsPiece (byte ∷ bytes) = (byte ≢ 0x0A) × IsPiece bytes

-- what is kept of a line: as much as tells that it is too long
unfoldable pub kept : List ℕ → List ℕ
kept line = take 70001 line
