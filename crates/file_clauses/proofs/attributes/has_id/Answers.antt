use Rattle.std.proofs.Common.{◌==◌, ap, refl, sym, ◌∙◌, arith}
use Rattle.std.proofs.lemmas.Bool.{eq-eqb, ne_eqb}
use Rattle.attr_view.specs.Left.{attributes_left}
use Rattle.attr_view.specs.View.{attribute_of}
use Rattle.ntfs_def.specs.Attribute.{Attribute}
use Rattle.list_laws.proofs.FindLaws.{count-no, count-yes}
use Rattle.file_clauses.specs.Attributes.{times_id_among}
use Rattle.file_clauses.proofs.attributes.has_id.Goals as goal

pub returns-then-id : goal.returns-then-id
returns-then-id c =
    let one = count-yes (λ (a : Attribute). a.id == c.args.id) (attribute_of c.in-Some.attribute) (attributes_left c.next.new.self)
    (eq-eqb _ _ (sym c.id.ensures ∙ c.if-id.true)) in
    let here = c.loop-attribute.invariant ∙ ap (times_id_among c.args.id) c.in-Some.ensures.steps in
    (λ _. omega arith, λ _. refl)

pub loop-attribute-preserved : goal.loop-attribute-preserved
loop-attribute-preserved c =
    let none = count-no (λ (a : Attribute). a.id == c.args.id) (attribute_of c.in-Some.attribute) (attributes_left c.next.new.self)
    (ne_eqb _ _ (λ e. c.if-id.false (c.id.ensures ∙ e))) in
    let here = c.loop-attribute.invariant ∙ ap (times_id_among c.args.id) c.in-Some.ensures.steps in
    omega arith
