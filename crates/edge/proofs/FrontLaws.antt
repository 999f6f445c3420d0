-- A text of which the first bytes are kept.
use Rattle.std.proofs.Common.{◌≡◌, ℕ, ◌+◌, List, ◌++◌, length, take, min, sym, ap, ◌∙◌, arith}
use Rattle.std.proofs.Math.Seq.{take-append-add}
use Rattle.std.proofs.lemmas.List.{take_min}

-- behind what is kept there is room for so many more
pub front-more : (front bytes : List ℕ) (room all : ℕ) → room + length front ≡ all
    → take all (front ++ bytes) ≡ front ++ take (min room (length bytes)) bytes
front-more front bytes room all fits =
    let long : all ≡ length front + room = omega arith in
    ap (λ n. take n (front ++ bytes)) long ∙ take-append-add front bytes room ∙ ap (λ xs. front ++ xs) (sym (take_min room bytes))
