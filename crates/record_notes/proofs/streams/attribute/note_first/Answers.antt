use Rattle.std.proofs.Common.{sym, ap, ◌==◌, ◌∙◌}
use Rattle.std.proofs.lemmas.Bool.{ne_eqb}
use Rattle.attr_view.specs.View.{attribute_of}
use Rattle.volume_def.specs.Files.{part_of}
use Rattle.record_notes.proofs.StreamLaws.{first-again, first-here, first-later}
use Rattle.record_notes.proofs.streams.attribute.note_first.Goals as goal

pub returns-then-is_some : goal.returns-then-is_some
returns-then-is_some c = λ n extents.
    first-again extents (part_of n (attribute_of c.args.attribute.now)) c.args.first.now (sym c.is_some.ensures ∙ c.if-is_some.true)

pub returns-then-first_vcn-ne0 : goal.returns-then-first_vcn-ne0
returns-then-first_vcn-ne0 c = λ n extents.
    first-later extents (part_of n (attribute_of c.args.attribute.now)) c.args.first.now
    (ne_eqb _ 0 (λ e. c.if-first_vcn-ne0.true (c.first_vcn.ensures ∙ e)))

pub returns : goal.returns
returns c = λ n extents.
    first-here extents (part_of n (attribute_of c.args.attribute.now)) c.args.first.now c.in_ok-sizes.sizes
    (sym c.is_some.ensures ∙ c.if-is_some.false) (ap (λ k. k == 0) (sym c.first_vcn.ensures ∙ c.if-first_vcn-ne0.false))
    (c.in_ok-sizes.ensures n)
