use Rattle.std.proofs.Common.{◌<◌, ◌≤◌, length, map, sym, subst, inl, inr, ◌∙◌, arith}
use Rattle.std.specs.Prelude.{IfNone}
use Rattle.std.proofs.lemmas.Bool.{cases_lt}
use Rattle.std.proofs.lemmas.List.{length-map}
use Rattle.std.proofs.lemmas.List.Elements.{All-map}
use Rattle.file_clauses.specs.Extents.{Follow, HaveClusters, clusters_covered, outlined}
use Rattle.file_clauses.proofs.FollowLaws.{covered-sum, follow-begins, follow-end, follow-less, follow-more, one-at, several-one, sum-end}
use Rattle.file_clauses.proofs.whole.covered_in_order.Goals as goal

pub returns-in_err-covered-clause-none : goal.returns-in_err-covered-clause-none
returns-in_err-covered-clause-none c =
    subst (λ o. IfNone o (¬ (Follow 0 (map outlined c.args.extents.now) × HaveClusters (map outlined c.args.extents.now))))
    (sym c.from_residual.ensures)
    (λ (follow, several). c.in_err-covered.ensures.none
    (follow-begins c.args.extents.now c.loop-extent.extent-index c.loop-extent.end _ c.loop-extent-test.true
    (c.loop-extent.invariant.from follow)))

pub returns-then-covered-eq0-clause-none : goal.returns-then-covered-eq0-clause-none
returns-then-covered-eq0-clause-none c (follow, several) =
    let one = several-one c.args.extents.now c.loop-extent.extent-index c.in_ok-covered.covered _ c.loop-extent-test.true
    c.in_ok-covered.ensures.some.1 c.if-several.true several in
    let none = c.if-covered-eq0.true in
    absurd (omega (arith, one, none))

pub loop-extent-preserved : goal.loop-extent-preserved
loop-extent-preserved c =
    let inv = c.loop-extent.invariant in
    let extents = c.args.extents.now in
    let i = c.loop-extent.extent-index in
    let lt : i < length extents = c.loop-extent-test.true in
    let some = c.in_ok-covered.ensures.some in
    let is = c.from-end.ensures ∙ some.1 in
    record {
      bound = let low = some.2 in let e = c.from-end.ensures in omega arith;
      to = λ follow. inv.to (follow-more extents i c.loop-extent.end c.from-end.result _ lt some.0 is follow);
      from = λ follow. follow-less extents i c.loop-extent.end c.from-end.result _ lt is (inv.from follow);
      each = λ long k d low. elim (cases_lt k i) [
        | inl before ↦ inv.each long k d before
        | inr here ↦ one-at extents i k c.in_ok-covered.covered _ d lt some.1 (omega arith) (elim c.else-several.either [
          | inl w ↦ elim (cases_lt 0 c.in_ok-covered.covered) [ inl more ↦ more | inr none ↦ absurd (w.1 (omega arith)) ]
          | inr few ↦ absurd (omega arith)
        ])
      ];
      sum = let more = covered-sum extents i c.from-end.result _ lt is in let sum = inv.sum in omega (arith, more, sum);
    }

pub returns-clause-some : goal.returns-clause-some
returns-clause-some c =
    let inv = c.loop-extent.invariant in
    let all = c.loop-extent-test.false in (
      inv.to (follow-end c.args.extents.now c.loop-extent.extent-index c.loop-extent.end all),
      λ long. All-map (λ outline. 1 ≤ clusters_covered outline) outlined c.args.extents.now
          (λ k d lt. inv.each (omega (arith, length-map c.args.extents.now outlined)) k d (omega arith)),
      (let none = sum-end c.args.extents.now c.loop-extent.extent-index all in let sum = inv.sum in omega (arith, none, sum)),
      inv.bound,
    )
