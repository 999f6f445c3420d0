-- The words of a command are the only ones.
use Rattle.std.proofs.Common.{◌≡◌, ℕ, zero, suc, List, [], ◌∷◌, sym, ap, ◌∙◌, subst}

abbrev word_at : ℕ → List (List ℕ) → List ℕ
word_at place [] = []
word_at zero (word ∷ words) = word
word_at (suc place) (word ∷ words) = word_at place words

-- what is said of a word, of the same word
pub same_word : (P : List ℕ → Type 0) (words one other : List (List ℕ)) (place : ℕ) → words ≡ one → words ≡ other
    → P (word_at place one) → P (word_at place other)
same_word P words one other place a b h = subst P (ap (word_at place) (sym a ∙ b)) h
