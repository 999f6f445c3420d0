use Rattle.std.proofs.Common.{◌≡◌, true, false, arith, rules}
use Rattle.attr_view.specs.Left.{attributes_left}
use Rattle.attr_view.specs.View.{attribute_of}
use Rattle.file_clauses.proofs.AttributesLaws.{next-alone, next-repeated}
use Rattle.file_clauses.proofs.attributes.is_right_next.Goals as goal
use Rattle.file_clauses.proofs.attributes.is_right_next.Goals.{then-least-kind, else-least-kind}

pub returns-then-not-has_id : goal.returns-then-not-has_id
returns-then-not-has_id c = λ n. elim c.if-least-kind.branch [
  | then-least-kind w ↦
      let free : w.has_id.result ≡ false = search rules in
      next-alone c.args.base n c.args.least (attribute_of c.args.attribute.now) (attributes_left c.args.left.now) w.has_id.result
      c.is_right_alone.result (omega (arith, w.if-least-kind.true, c.kind.ensures)) w.id.result w.id.ensures w.has_id.ensures free
      (c.is_right_alone.ensures n)
  | else-least-kind w ↦ absurd (search rules)
]

pub returns-else-not-has_id : goal.returns-else-not-has_id
returns-else-not-has_id c = λ n. elim c.if-least-kind.branch [
  | then-least-kind w ↦
      let used : w.has_id.result ≡ true = search rules in (
        λ t. absurd (cc),
        λ next. absurd (next-repeated c.args.base n c.args.least (attribute_of c.args.attribute.now) (attributes_left c.args.left.now)
            w.id.result w.id.ensures (w.has_id.ensures.0 used) next),
      )
  | else-least-kind w ↦ (
    λ t. absurd (cc),
    λ next. let low = next.rising in absurd (omega (arith, w.if-least-kind.false, c.kind.ensures)),
  )
]
