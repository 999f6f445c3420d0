-- A buffer whose front was read, and the rest filled with zeros.
use Rattle.std.proofs.Common.{◌≡◌, ℕ, ◌-◌, ◌≤◌, List, ◌++◌, length, drop, replicate, ap, ◌∙◌, arith, append-nil, length-append, length-drop}
use Rattle.std.proofs.lemmas.List.{drop_all, drop_at, take_all, take_at}
use borrow.Rule.Slice.PartMut.{mid_of, put_mid}

pub filled : (old read fill : List ℕ) (n k : ℕ) → n ≤ length old → length read ≡ n → k ≡ length (read ++ drop n old) - n
    → fill ≡ replicate (length (mid_of n k (read ++ drop n old))) 0
    → put_mid n k (read ++ drop n old) fill ≡ read ++ replicate (length old - n) 0
filled old read fill n k within size is zeros =
    let all = read ++ drop n old in
    let long : k ≡ length old - n = omega (arith, is, length-append read (drop n old), length-drop n old) in
    let behind = drop_at read (drop n old) n size in
    let rest : length (drop n all) ≡ k = ap length behind ∙ omega (arith, length-drop n old, long) in
    let mid = take_all k (drop n all) (omega (arith, rest)) in
    ap (λ xs. xs ++ (fill ++ drop k (drop n all))) (take_at read (drop n old) n size)
    ∙ ap (λ xs. read ++ (fill ++ xs)) (drop_all k (drop n all) (omega (arith, rest)))
    ∙ ap (λ xs. read ++ xs) (append-nil fill ∙ zeros ∙ ap (λ xs. replicate (length xs) 0) mid ∙ ap (λ m. replicate m 0) (rest ∙ long))
