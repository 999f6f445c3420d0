-- The lines of a text, one by one.
use Rattle.std.proofs.Common.{◌≡◌, ◌≢◌, ℕ, List, [], ◌∷◌, ◌++◌, length, refl, arith, ◌<◌}
use Rattle.script_lines.specs.Text.{lines_of, ended_lines, IsPiece}
use Rattle.std.proofs.lemmas.Grind.{common_steps}

-- the line that ends first is the first one, and the lines of the rest follow it
pub lines_of-first : (line rest : List ℕ) → IsPiece line → lines_of (line ++ 0x0A ∷ rest) ≡ line ∷ lines_of rest
lines_of-first [] rest h = refl
lines_of-first (b ∷ line) rest h = let ih = lines_of-first line rest h.1 in grind (arith, common_steps, h.0, ih)

pub ended_lines-first : (line rest : List ℕ) → IsPiece line → ended_lines (line ++ 0x0A ∷ rest) ≡ line ∷ ended_lines rest
ended_lines-first [] rest h = refl
ended_lines-first (b ∷ line) rest h = let ih = ended_lines-first line rest h.1 in grind (arith, common_steps, h.0, ih)

pub ended_lines-piece : (line : List ℕ) → IsPiece line → ended_lines line ≡ []
ended_lines-piece [] h = refl
ended_lines-piece (b ∷ line) h = let ih = ended_lines-piece line h.1 in grind (arith, common_steps, h.0, ih)

pub lines_of-piece : (line : List ℕ) → IsPiece line → 0 < length line → lines_of line ≡ line ∷ []
lines_of-piece [] h k = absurd (omega arith)
lines_of-piece (b ∷ []) h k = grind (arith, common_steps, h.0)
lines_of-piece (b ∷ c ∷ line) h k = let ih = lines_of-piece (c ∷ line) h.1 (omega arith) in grind (arith, common_steps, h.0, ih)

pub IsPiece-push : (line : List ℕ) (b : ℕ) → IsPiece line → b ≢ 0x0A → IsPiece (line ++ b ∷ [])
IsPiece-push [] b h k = (k, tt)
IsPiece-push (a ∷ line) b h k = (h.0, IsPiece-push line b h.1 k)
