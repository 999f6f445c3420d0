-- A buffer whose two halves were written.
use Rattle.std.proofs.Common.{◌≡◌, ℕ, List, [], ◌++◌, length, take, drop, ap, ◌∙◌, arith, append-nil, length-drop}
use Rattle.std.proofs.lemmas.List.{drop_all, drop_at, take_at}
use borrow.Rule.Slice.PartMut.{put_mid, post_of}

pub put_mid-halves : (old first second : List ℕ) → length old ≡ 1024 → length first ≡ 512
    → put_mid 512 512 (first ++ post_of 0 512 old) second ≡ first ++ second
put_mid-halves old first second all half =
    let front : take 512 (first ++ drop 512 old) ≡ first = take_at first (drop 512 old) 512 half in
    let behind : drop 512 (drop 512 (first ++ drop 512 old)) ≡ [] =
    ap (drop 512) (drop_at first (drop 512 old) 512 half) ∙ drop_all 512 (drop 512 old) (omega (arith, length-drop 512 old)) in
    ap (λ xs. xs ++ (second ++ drop 512 (drop 512 (first ++ drop 512 old)))) front
    ∙ ap (λ xs. first ++ (second ++ xs)) behind
    ∙ ap (λ xs. first ++ xs) (append-nil second)
