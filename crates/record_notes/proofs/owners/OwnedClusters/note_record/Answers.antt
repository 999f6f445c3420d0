use Rattle.std.proofs.Common.{◌++◌, ◌∙◌, ap, sym, subst, append_assoc}
use Rattle.std.specs.Prelude.{flat_map}
use Rattle.std.proofs.lemmas.List.{append-nil}
use Rattle.attr_view.specs.View.{attribute_of}
use Rattle.record_notes.specs.Owners.{RunsNote, attribute_runs}
use Rattle.record_notes.proofs.owners.OwnedClusters.note_record.Goals as goal

pub loop-attribute-preserved : goal.loop-attribute-preserved
loop-attribute-preserved c = record {
  clusters = c.note_attribute.ensures.clusters ∙ c.loop-attribute.invariant.clusters;
  noted = λ runs notes.
      let before = c.loop-attribute.invariant.noted runs notes in
      let here = attribute_runs (attribute_of c.in-Some.attribute) in (
        before.0 ++ here,
        c.in_ok-note_attribute.ensures.noted before.0 before.1,
        append_assoc before.0 here _ ∙ ap (λ xs. before.0 ++ flat_map attribute_runs xs) (sym c.in-Some.ensures.steps) ∙ before.2,
      );
}

pub returns-clause-noted : goal.returns-clause-noted
returns-clause-noted c = λ runs notes.
    let before = c.loop-attribute.invariant.noted runs notes in
    subst (λ xs. RunsNote xs c.loop-attribute.self)
    (sym (append-nil before.0) ∙ ap (λ xs. before.0 ++ flat_map attribute_runs xs) (sym c.in-None.ensures.steps.0) ∙ before.2) before.1
