-- Texts behind one another in a sink.
use Rattle.std.proofs.Common.{ℕ, ◌+◌, ◌-◌, List, ◌++◌, length, take, drop, Option, None, Some, ap, subst, ◌∙◌, append_assoc}
use Rattle.std.proofs.Math.Seq.{take-add}
use Rattle.std.proofs.lemmas.List.{take_rest}
use Rattle.vol_disk.specs.Contents.{map_told}
use Rattle.vol_disk.specs.Stream.{IsAppended}

-- a text behind another is one text
pub IsAppended-twice : (o p q : Option (List ℕ)) (xs ys : List ℕ) → IsAppended o xs p → IsAppended p ys q
    → IsAppended o (xs ++ ys) q
IsAppended-twice None p q xs ys a b = b ∙ ap (map_told (λ all. all ++ ys)) a
IsAppended-twice (Some all) p q xs ys a b = b ∙ ap (map_told (λ all. all ++ ys)) a ∙ ap (λ (t : List ℕ). Some t) (append_assoc all xs ys)

-- the first n bytes of what a text has left come behind what is done of it
pub IsAppended-more : (o p q : Option (List ℕ)) (text : List ℕ) (done n : ℕ) → IsAppended o (take done text) p
    → IsAppended p (take n (take (length text - done) (drop done text))) q → IsAppended o (take (done + n) text) q
IsAppended-more o p q text done n a b =
    let rest : IsAppended p (take n (drop done text)) q = subst (λ xs. IsAppended p (take n xs) q) (take_rest text done) b in
    rw (take-add done n text) (IsAppended-twice o p q _ _ a rest)
