use Rattle.std.proofs.Common.{sym, ◌∙◌}
use Rattle.attr_view.specs.View.{attribute_of}
use Rattle.file_clauses.proofs.LimitLaws.{bad-stream, extent-limits, no-extent, other-kind}
use Rattle.file_clauses.proofs.limits.is_in_limits.Goals as goal

pub returns-then-kind-ne-DATA : goal.returns-then-kind-ne-DATA
returns-then-kind-ne-DATA c n =
    other-kind c.args.f n (attribute_of c.args.attribute.now) (λ is. c.if-kind-ne-DATA.true (c.kind.ensures ∙ is))

pub returns-then-is_bad_stream : goal.returns-then-is_bad_stream
returns-then-is_bad_stream c n =
    bad-stream c.args.f n (attribute_of c.args.attribute.now) (sym (c.is_bad_stream.ensures n) ∙ c.if-is_bad_stream.true)

pub returns-in-Some : goal.returns-in-Some
returns-in-Some c n =
    extent-limits c.args.f n (attribute_of c.args.attribute.now) c.in-Some.sizes c.is_short.result
    (sym c.kind.ensures ∙ c.if-kind-ne-DATA.false) (sym (c.is_bad_stream.ensures n) ∙ c.if-is_bad_stream.false)
    (sym c.sizes.ensures ∙ c.in-Some.is) c.is_short.ensures

pub returns-in-None : goal.returns-in-None
returns-in-None c n = no-extent c.args.f n (attribute_of c.args.attribute.now) (sym c.sizes.ensures ∙ c.in-None.is)
