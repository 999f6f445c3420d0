-- The bytes of a text, one by one.
use Rattle.std.specs.Prelude.{◌≡◌, ◌+◌, ◌^◌, ℕ, List, [], ◌∷◌, length, Option, Some, slice_range}
use Rattle.vol_disk.specs.Count.{Rose}
use Rattle.script_lines.specs.declared.reader.Byte.{Byte}
use Rattle.script_lines.specs.declared.reader.Byte.TheVariants as byte
use Rattle.script_lines.specs.declared.reader.LineReader.{LineReader}

-- what lies in the buffer
abbrev pub pending : LineReader → List ℕ
pending reader = slice_range reader.buffer reader.at reader.end

-- how many bytes were handed on before and after
abbrev pub consumes : Byte → ℕ → ℕ → Type 0
consumes (byte.Is b) old new = new ≡ old + 1
consumes byte.End old new = new ≡ old
consumes byte.Failed old new = new ≡ old
consumes byte.TooMuch old new = new ≡ old

-- A byte came from the buffer, or too many came before it.
abbrev pub HandedOver : Byte → LineReader → LineReader → Type 0
HandedOver (byte.Is b) old new = pending old ≡ b ∷ pending new
HandedOver byte.TooMuch old new = (pending new ≡ pending old) × (new.consumed ≡ 2 ^ 30) × (length (pending new) ≡ 1)
HandedOver byte.End old new = ⊥
HandedOver byte.Failed old new = ⊥

-- One byte of what is to come lies in the buffer, and the source has the others left.
pub record IsOneAhead (text : List ℕ) (left : Option (List ℕ)) : Type 0 where
  pub byte : ℕ
  pub others : List ℕ
  pub whole : text ≡ byte ∷ others
  pub behind : left ≡ Some others

-- what asking for a byte leaves of the text that was to come
abbrev pub IsByte : Byte → List ℕ → List ℕ → ℕ → ℕ → Option (List ℕ) → Type 0
IsByte (byte.Is b) text rest old new left = (text ≡ b ∷ rest) × (new ≡ old + 1)
IsByte byte.End text rest old new left = (text ≡ []) × (rest ≡ []) × (new ≡ old) × (left ≡ Some [])
IsByte byte.Failed text rest old new left = (rest ≡ text) × (new ≡ old) × (left ≡ Some rest)
IsByte byte.TooMuch text rest old new left = (rest ≡ text) × (new ≡ old) × (new ≡ 2 ^ 30) × IsOneAhead rest left

pub record NextByte (given : Byte) (text : List ℕ) (old new : ℕ) (after left : Option (List ℕ)) : Type 0 where
  pub rest : List ℕ
  pub coming : after ≡ Some rest
  pub is : IsByte given text rest old new left

-- what it did to the source's count of faults
abbrev pub CountsByte : Byte → ℕ → ℕ → Type 0
CountsByte (byte.Is b) before after = after ≡ before
CountsByte byte.End before after = after ≡ before
CountsByte byte.Failed before after = Rose before after
CountsByte byte.TooMuch before after = after ≡ before
