use Rattle.std.proofs.Common.{◌≡◌, inl, inr, sym, ◌∙◌, subst, arith}
use Rattle.std.proofs.lemmas.Bool.{cases_lt, false≢true}
use Rattle.ntfs_def.specs.Attribute.{attribute_place}
use Rattle.attr_view.specs.View.{place_of, viewed_block}
use Rattle.volume_def.specs.VersionClause.{IsVersionAt}
use Rattle.file_clauses.proofs.version.find_version.Goals as goal

pub returns-then-tells_version-clause-some : goal.returns-then-tells_version-clause-some
returns-then-tells_version-clause-some c =
    let block = viewed_block c.args.opened.now in
    let its = c.tells_version.ensures.0 c.if-tells_version.true in (
      omega (arith, c.count-i-end.ensures),
      subst (IsVersionAt block) c.attr-attribute.ensures.place
          (subst (λ b. IsVersionAt b (place_of c.attr-attribute.result)) c.attr-attribute.ensures.block its),
    )

pub loop-i-preserved : goal.loop-i-preserved
loop-i-preserved c =
    let block = viewed_block c.args.opened.now in
    λ j lt. elim (cases_lt j c.loop-i.i) [
      | inl low ↦ c.loop-i.invariant j low
      | inr high ↦
          let e : c.loop-i.i ≡ j = omega arith in
          λ has.
          let here = subst (λ k. IsVersionAt block (attribute_place block k)) (sym e) has in
          let its = subst (λ b. IsVersionAt b (place_of c.attr-attribute.result)) (sym c.attr-attribute.ensures.block)
          (subst (IsVersionAt block) (sym c.attr-attribute.ensures.place) here) in
          false≢true (sym c.if-tells_version.false ∙ c.tells_version.ensures.1 its)
    ]

pub returns-clause-none : goal.returns-clause-none
returns-clause-none c i lt = c.loop-i.invariant i (omega (arith, c.count-i-end.ensures, lt))
