use Rattle.std.proofs.Common.{◌∷◌, [], map, ap, sym, subst, ◌∙◌}
use Rattle.std.proofs.lemmas.List.{append-nil, map_push}
use Rattle.attr_view.specs.Left.{attributes_left}
use Rattle.attr_view.specs.View.{attribute_of, attributes_of, viewed_block}
use Rattle.record_notes.specs.Names.{told_name, told_names}
use Rattle.record_notes.proofs.NameLaws.{Noting, Noting-all, Noting-more}
use Rattle.record_notes.proofs.names.Names.note.Goals as goal

pub loop-attribute-preserved-in-Continue-1 : goal.loop-attribute-preserved-in-Continue-1
loop-attribute-preserved-in-Continue-1 c =
    Noting-more c.args.n c.file_of-file.result (told_names c.args.self.now) (told_names c.loop-attribute.self) _
    (attributes_of c.args.view.now)
    (attributes_left c.loop-attribute.attribute-iterator) (attributes_left c.next.new.self) (attribute_of c.in-Some.attribute)
    (told_name c.in-Some-fact_in.name ∷ []) c.in-Some.ensures.steps c.in-Some-fact_in.ensures
    (ap (map told_name) c.in_ok-push.ensures.items ∙ map_push told_name c.loop-attribute.self.names.items c.in-Some-fact_in.name)
    c.loop-attribute.invariant

pub loop-attribute-preserved : goal.loop-attribute-preserved
loop-attribute-preserved c =
    Noting-more c.args.n c.file_of-file.result (told_names c.args.self.now) (told_names c.loop-attribute.self) _
    (attributes_of c.args.view.now)
    (attributes_left c.loop-attribute.attribute-iterator) (attributes_left c.next.new.self) (attribute_of c.in-Some.attribute)
    [] c.in-Some.ensures.steps c.in_default.ensures
    (sym (append-nil (told_names c.loop-attribute.self)))
    c.loop-attribute.invariant

pub returns : goal.returns
returns c records at meets was =
    Noting-all records c.args.n (viewed_block c.args.view.now) (told_names c.args.self.now) (told_names c.loop-attribute.self)
    (attributes_left c.loop-attribute.attribute-iterator) at meets c.in-None.ensures.steps.0
    (subst (λ file. Noting c.args.n file (told_names c.args.self.now) (told_names c.loop-attribute.self) (attributes_of c.args.view.now)
    (attributes_left c.loop-attribute.attribute-iterator)) c.file_of-file.ensures c.loop-attribute.invariant) was
