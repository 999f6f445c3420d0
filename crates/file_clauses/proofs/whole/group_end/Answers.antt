use Rattle.std.proofs.Common.{length, false, sym, ◌∙◌, arith}
use Rattle.file_clauses.proofs.InOrderLaws.{group-from, like-any}
use Rattle.file_clauses.proofs.whole.group_end.Goals as goal

pub returns-then-not-is_like : goal.returns-then-not-is_like
returns-then-not-is_like c =
    let low = c.loop-end.auto.end in
    let lt = c.loop-end-test.true in
    group-from c.args.extents.now c.args.start c.loop-end.end (omega arith) (omega arith) c.loop-end.invariant
    (λ d _. like-any c.args.extents.now c.args.start c.loop-end.end false _ _ c.requires (omega arith) (sym c.is_like.ensures
    ∙ c.if-not-is_like.true) d)

pub returns : goal.returns
returns c =
    let all = c.loop-end-test.false in
    group-from c.args.extents.now c.args.start (length c.args.extents.now) c.requires (omega arith)
    (λ k d low high. c.loop-end.invariant k d low (omega arith)) (λ d more. absurd (omega arith))
