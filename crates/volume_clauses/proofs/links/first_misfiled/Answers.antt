use Rattle.std.proofs.Common.{◌≤◌, length, inl, inr, subst, arith, below_more}
use Rattle.std.proofs.lemmas.Bool.{cases_lt}
use Rattle.record_notes.specs.Heads.{head_at}
use Rattle.volume_clauses.specs.Links.{IsFiled}
use Rattle.volume_clauses.specs.Marks.{is_found, mark_at}
use Rattle.volume_clauses.specs.Tallies.{tally_at}
use Rattle.volume_clauses.proofs.FilingLaws.{past-filed, past-root}
use Rattle.volume_clauses.proofs.links.first_misfiled.Goals as goal

pub loop-f-preserved : goal.loop-f-preserved
loop-f-preserved c =
    let f = c.loop-f.f in
    let heads = c.args.heads.now in
    let tally = tally_at c.args.tallies.now f in
    let here : IsFiled f c.get.result tally c.is_found.result = c.is_filed.ensures.0 c.if-not-is_filed.false in
    below_more (λ k. IsFiled k (head_at heads k) (tally_at c.args.tallies.now k) (is_found (mark_at c.args.marks.now k))) f
    c.loop-f.invariant
    (subst (λ o. IsFiled f o tally (is_found (mark_at c.args.marks.now f))) c.get.ensures
    (subst (IsFiled f c.get.result tally) c.is_found.ensures here))

pub returns-then-count-le-ROOT : goal.returns-then-count-le-ROOT
returns-then-count-le-ROOT c =
    let heads = c.args.heads.now in
    let past : length heads.heads.items ≤ 5 = omega (arith, c.if-count-le-ROOT.true, c.count.ensures) in (
      past-root heads _ _ past,
      λ m less. elim (cases_lt m c.loop-f.f) [
        | inl lt ↦ c.loop-f.invariant m lt
        | inr ge ↦ past-filed heads m _ _ (omega (arith, c.loop-f-test.false, c.count-f-end.ensures)) (λ e. absurd (omega arith))
      ],
    )
