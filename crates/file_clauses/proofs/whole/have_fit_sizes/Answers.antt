use Rattle.std.proofs.Common.{◌≡◌, true, inl, inr, refl, arith}
use Rattle.std.proofs.lemmas.Bool.{cases_lt}
use Rattle.file_clauses.specs.declared.extents.Extent.{Extent}
use Rattle.file_clauses.specs.Extents.{HasFitSizes, outlined}
use Rattle.file_clauses.proofs.InOrderLaws.{at-same}
use Rattle.file_clauses.proofs.whole.have_fit_sizes.Goals as goal

pub returns-then-not-has_fit_sizes : goal.returns-then-not-has_fit_sizes
returns-then-not-has_fit_sizes c = (
  λ f. absurd (cc),
  λ all.
      let t : c.has_fit_sizes.result ≡ true = c.has_fit_sizes.ensures.1 (all c.loop-extent.extent-index _ c.loop-extent-test.true) in
      let f = c.if-not-has_fit_sizes.true in
      absurd (cc),
)

pub loop-extent-preserved : goal.loop-extent-preserved
loop-extent-preserved c = λ k d low. elim (cases_lt k c.loop-extent.extent-index) [
  | inl before ↦ c.loop-extent.invariant k d before
  | inr here ↦ at-same (λ (extent : Extent). HasFitSizes c.args.bytes c.args.f
      (outlined extent)) c.args.extents.now c.loop-extent.extent-index k _ d
      c.loop-extent-test.true (omega arith) (c.has_fit_sizes.ensures.0 c.if-not-has_fit_sizes.false)
]

pub returns : goal.returns
returns c = (λ _ k d lt. c.loop-extent.invariant k d (let all = c.loop-extent-test.false in omega arith), λ _. refl)
