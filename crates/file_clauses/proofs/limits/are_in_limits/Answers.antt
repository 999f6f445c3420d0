use Rattle.std.proofs.Common.{refl, sym, ◌∙◌, map, subst}
use Rattle.std.specs.Prelude.{All}
use Rattle.std.proofs.lemmas.Bool.{false≢true}
use Rattle.std.proofs.lemmas.List.Elements.{All-nil}
use Rattle.attr_view.specs.Left.{attributes_left}
use Rattle.attr_view.specs.View.{attribute_of}
use Rattle.volume_def.specs.Files.{part_of}
use Rattle.volume_def.specs.LimitsClause.{IsInLimits}
use Rattle.file_clauses.proofs.LimitLaws.{limits-first, limits-left}
use Rattle.file_clauses.proofs.limits.are_in_limits.Goals as goal

pub returns-then-not-is_in_limits : goal.returns-then-not-is_in_limits
returns-then-not-is_in_limits c = λ n. (
  λ f. absurd (false≢true f),
  λ all. absurd (false≢true (sym c.if-not-is_in_limits.true ∙ (c.is_in_limits.ensures n).1
      (limits-first c.args.f n (attribute_of c.in-Some.attribute) (attributes_left c.next.new.self)
      (attributes_left c.loop-attribute.attribute-iterator) c.in-Some.ensures.steps ((c.loop-attribute.invariant n).1 all)))),
)

pub loop-attribute-preserved : goal.loop-attribute-preserved
loop-attribute-preserved c = λ n.
    let before = c.loop-attribute.invariant n in
    let here = (c.is_in_limits.ensures n).0 c.if-not-is_in_limits.false in
    let left = limits-left c.args.f n (attribute_of c.in-Some.attribute) (attributes_left c.next.new.self)
    (attributes_left c.loop-attribute.attribute-iterator) c.in-Some.ensures.steps here in
    (λ rest. before.0 (left.0 rest), λ all. left.1 (before.1 all))

pub returns : goal.returns
returns c = λ n. (
  λ _. (c.loop-attribute.invariant n).0 (subst (λ items. All (IsInLimits c.args.f) (map (part_of n) items)) (sym c.in-None.ensures.steps.0)
      (All-nil (IsInLimits c.args.f))),
  λ _. refl,
)
