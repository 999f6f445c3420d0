use Rattle.std.proofs.Common.{◌∷◌, sym, subst, ◌∙◌}
use Rattle.volume_def.specs.Files.{part_of}
use Rattle.attr_view.specs.View.{attribute_of}
use Rattle.attr_store.proofs.FirstLaws.{body-value}
use Rattle.index_store.specs.PartsMet.{RootMet}
use Rattle.index_store.proofs.PartsMetLaws.{root-clusters, root-other, root-second, root-value}
use Rattle.index_store.proofs.parts_met.root_with.Goals as goal

pub returns-then-not-is_of : goal.returns-then-not-is_of
returns-then-not-is_of c file n left seen =
    root-other file c.args.name.now (part_of n (attribute_of c.args.attribute.now)) left _
    (sym (c.is_of.ensures n) ∙ c.if-not-is_of.true) seen

pub returns-in-Some : goal.returns-in-Some
returns-in-Some c file n left seen =
    let a = attribute_of c.args.attribute.now in
    root-value file c.args.name.now (part_of n a) left (sym (c.is_of.ensures n) ∙ c.if-not-is_of.false) c.in-Some.value.now
    (body-value a.body ∙ sym c.in-Some.ensures)
    (subst (RootMet file c.args.name.now (part_of n a ∷ left)) c.in-Missing.is seen)

pub returns-in-None : goal.returns-in-None
returns-in-None c file n left seen =
    let a = attribute_of c.args.attribute.now in
    root-clusters file c.args.name.now (part_of n a) left (sym (c.is_of.ensures n) ∙ c.if-not-is_of.false)
    (body-value a.body ∙ sym c.in-None.ensures)
    (subst (RootMet file c.args.name.now (part_of n a ∷ left)) c.in-Missing.is seen)

pub returns-in-Only : goal.returns-in-Only
returns-in-Only c file n left seen =
    let a = attribute_of c.args.attribute.now in
    root-second file c.args.name.now (part_of n a) left (sym (c.is_of.ensures n) ∙ c.if-not-is_of.false) c.in-Only.field-0
    (subst (RootMet file c.args.name.now (part_of n a ∷ left)) c.in-Only.is seen)
