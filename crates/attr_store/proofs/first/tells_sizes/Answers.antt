use Rattle.std.proofs.Common.{◌&&◌, sym, ap, ◌∙◌}
use Rattle.attr_view.specs.View.{attribute_of}
use Rattle.volume_def.specs.Files.{part_of}
use Rattle.volume_def.specs.Values.{is_first}
use Rattle.attr_store.proofs.first.tells_sizes.Goals as goal

pub returns-then-is_of : goal.returns-then-is_of
returns-then-is_of c n =
    let first = is_first (part_of n (attribute_of c.args.attribute.now)) in
    c.is_first.ensures n ∙ sym (ap (λ b. b && first) (sym (c.is_of.ensures n) ∙ c.if-is_of.true))

pub returns-else-is_of : goal.returns-else-is_of
returns-else-is_of c n =
    let first = is_first (part_of n (attribute_of c.args.attribute.now)) in
    c.if-is_of.false ∙ sym (ap (λ b. b && first) (sym (c.is_of.ensures n) ∙ c.if-is_of.false))
