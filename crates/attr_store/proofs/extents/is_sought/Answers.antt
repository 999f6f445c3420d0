use Rattle.std.proofs.Common.{◌&&◌, sym, ap, ◌∙◌}
use Rattle.attr_view.specs.View.{attribute_of}
use Rattle.volume_def.specs.Files.{part_of}
use Rattle.volume_def.specs.Spans.{spans_vcn}
use Rattle.attr_store.proofs.extents.is_sought.Goals as goal

pub returns-then-is_of : goal.returns-then-is_of
returns-then-is_of c =
    let spans = spans_vcn c.args.vcn (part_of 0 (attribute_of c.args.attribute.now)) in
    c.spans_vcn.ensures 0 ∙ sym (ap (λ b. b && spans) (sym (c.is_of.ensures 0) ∙ c.if-is_of.true))

pub returns-else-is_of : goal.returns-else-is_of
returns-else-is_of c =
    let spans = spans_vcn c.args.vcn (part_of 0 (attribute_of c.args.attribute.now)) in
    c.if-is_of.false ∙ sym (ap (λ b. b && spans) (sym (c.is_of.ensures 0) ∙ c.if-is_of.false))
