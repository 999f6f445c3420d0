-- A line of a script, as far as its bytes came.
use Rattle.std.specs.Prelude.{ℕ, ◌-◌, ◌==◌, List, [], ◌∷◌, length, slice_index_or, Bool, false, not, if◌then◌else◌}

-- the last of these bytes, or this one where there is none
abbrev pub last_or : ℕ → List ℕ → ℕ
last_or byte bytes = slice_index_or bytes (length bytes - 1) byte

-- the bytes of a text before its first newline, or all
unfoldable pub line_in : List ℕ → List ℕ
line_in [] = []
line_in (byte ∷ bytes) = if byte == 10 then [] else byte ∷ line_in bytes

-- a line that begins so asks for something: it is neither empty nor a comment, which begins with `#`
abbrev pub is_asking : List ℕ → Bool
is_asking [] = false
is_asking (byte ∷ _) = not (byte == 35)
