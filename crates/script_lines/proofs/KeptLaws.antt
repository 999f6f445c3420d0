-- What is kept of a line. Each law is of any number first: 70,001 itself would be counted down.
use Rattle.std.proofs.Common.{◌≡◌, ℕ, zero, suc, ◌<◌, ◌≤◌, List, [], ◌∷◌, ◌++◌, length, take, refl, ap, arith}
use Rattle.std.proofs.lemmas.List.{take_all}
use Rattle.script_lines.specs.Text.{kept, is_command}

push : (n : ℕ) (part : List ℕ) (b : ℕ) → take n (take n part ++ b ∷ []) ≡ take n (part ++ b ∷ [])
push zero part b = refl
push (suc n) [] b = refl
push (suc n) (p ∷ part) b = ap (λ l. p ∷ l) (push n part b)

full : (n : ℕ) (part : List ℕ) (b : ℕ) → length part ≡ n → take n (part ++ b ∷ []) ≡ part
full zero [] b e = refl
full zero (p ∷ part) b e = absurd (omega arith)
full (suc n) [] b e = absurd (omega arith)
full (suc n) (p ∷ part) b e = ap (λ l. p ∷ l) (full n part b (omega arith))

none : (n : ℕ) (part : List ℕ) → 0 < n → take n part ≡ [] → part ≡ []
none zero part h e = absurd (omega arith)
none (suc n) [] h e = refl
none (suc n) (p ∷ part) h e = cc

pub kept-push : (part : List ℕ) (b : ℕ) → kept (kept part ++ b ∷ []) ≡ kept (part ++ b ∷ [])
unfolding kept
kept-push part b = push 70001 part b

pub kept-full : (part : List ℕ) (b : ℕ) → length part ≡ 70001 → kept (part ++ b ∷ []) ≡ part
unfolding kept
kept-full part b e = full 70001 part b e

pub kept-all : (part : List ℕ) → length part ≤ 70001 → kept part ≡ part
unfolding kept
kept-all part h = take_all 70001 part h

pub kept-none : (part : List ℕ) → kept part ≡ [] → part ≡ []
unfolding kept
kept-none part e = none 70001 part (omega arith) e

pub kept-nil : kept [] ≡ []
unfolding kept
kept-nil = take_all 70001 [] (omega arith)

short : (n : ℕ) (part : List ℕ) → length (take n part) < n → take n part ≡ part
short zero part h = absurd (omega arith)
short (suc n) [] h = refl
short (suc n) (p ∷ part) h = ap (λ l. p ∷ l) (short n part (omega (arith, h)))

shorter : (n : ℕ) (part : List ℕ) → length (take n part) ≤ length part
shorter zero part = omega arith
shorter (suc n) [] = omega arith
shorter (suc n) (p ∷ part) = let ih = shorter n part in omega (arith, ih)

begins : (n : ℕ) (part : List ℕ) → 0 < n → is_command (take n part) ≡ is_command part
begins zero part h = absurd (omega arith)
begins (suc n) [] h = refl
begins (suc n) (p ∷ part) h = refl

pub kept-short : (part : List ℕ) → length (kept part) ≤ 70000 → kept part ≡ part
unfolding kept
kept-short part h = short 70001 part (omega (arith, h))

pub length-kept : (part : List ℕ) → length (kept part) ≤ length part
unfolding kept
length-kept part = shorter 70001 part

pub kept-command : (part : List ℕ) → is_command (kept part) ≡ is_command part
unfolding kept
kept-command part = begins 70001 part (omega arith)
