use Rattle.std.proofs.Common.{inl, inr, subst, ◌∙◌, arith}
use Rattle.std.specs.Prelude.{Contains}
use Rattle.list_laws.proofs.MemberLaws.{Contains-nil, Contains-only}
use Rattle.block_tests.proofs.marks.stage_low.Goals as goal

pub returns-clause-low : goal.returns-clause-low
returns-clause-low g c n h4 = elim (c.put-4.ensures.places.only n h4) [
  | inr at ↦ let e = Contains-only 0 n at in omega (arith, e)
  | inl h3 ↦ elim (c.put-3.ensures.places.only n h3) [
    | inr at ↦ let e = Contains-only 1 n at in omega (arith, e)
    | inl h2 ↦ elim (c.put-2.ensures.places.only n h2) [
      | inr at ↦ let e = Contains-only 0 n at in omega (arith, e)
      | inl h1 ↦ elim (c.put.ensures.places.only n h1) [
        | inr at ↦ let e = Contains-only 2 n at in omega (arith, e)
        | inl h0 ↦ absurd (Contains-nil n (subst (λ xs. Contains xs n) (c.in_ok-reserve.ensures.places ∙ c.requires.none) h0))
      ]
    ]
  ]
]
