use Rattle.std.proofs.Common.{sym, ap, ◌∙◌}
use Rattle.std.specs.Prelude.{find}
use Rattle.std.proofs.lemmas.Bool.{cond-true}
use Rattle.attr_view.specs.View.{attribute_of}
use Rattle.attr_store.specs.Sought.{spans_named}
use Rattle.attr_store.proofs.extents.next_extent.Goals as goal

pub returns-then-is_sought : goal.returns-then-is_sought
returns-then-is_sought c =
    let p = spans_named c.args.kind c.args.name.now c.args.vcn in
    sym (c.loop-attribute.invariant ∙ ap (find p) c.in-Some.ensures.steps
    ∙ cond-true (p (attribute_of c.in-Some.attribute)) _ _ (sym c.is_sought.ensures ∙ c.if-is_sought.true))
