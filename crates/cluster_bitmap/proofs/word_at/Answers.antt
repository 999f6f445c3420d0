use Rattle.std.proofs.Common.{ℕ, ap, ◌∙◌, arith, length-drop}
use Rattle.std.proofs.lemmas.List.{take_rest}
use Rattle.std.specs.Int.{bit_at}
use Rattle.cluster_bitmap.proofs.WordLaws.{word-bits}
use Rattle.cluster_bitmap.proofs.word_at.Goals as goal

pub returns : goal.returns
returns c = λ i h within.
    let e = rw take_rest at c.read_uint.ensures in
    ap (λ x. bit_at x i) e ∙ word-bits c.args.bytes.now c.args.at _ i (λ k. omega (arith, c.type_inv.bytes k))
    (omega (arith, length-drop {A = ℕ}))
