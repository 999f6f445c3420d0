use Rattle.std.proofs.Common.{◌++◌, ◌∷◌, [], ◌∙◌, ap, sym, subst, append_assoc, append-nil}
use Rattle.attr_view.specs.Left.{attributes_left}
use Rattle.attr_view.specs.View.{attribute_of}
use Rattle.record_notes.specs.Streams.{NotesStream, unnamed_parts}
use Rattle.record_notes.proofs.StreamLaws.{unnamed-cons}
use Rattle.record_notes.proofs.streams.StreamNote.note_record.Goals as goal

pub loop-attribute-preserved : goal.loop-attribute-preserved
loop-attribute-preserved c = record {
  places = c.note_attribute.ensures.places ∙ c.loop-attribute.invariant.places;
  noted = λ n extents notes.
      let before = c.loop-attribute.invariant.noted n extents notes in
      let a = attribute_of c.in-Some.attribute in
      let here = unnamed_parts c.args.kind n (a ∷ []) in
      let rest = attributes_left c.next.new.self in (
        before.0 ++ here,
        c.in_ok-note_attribute.ensures.noted n before.0 before.1,
        append_assoc before.0 here (unnamed_parts c.args.kind n rest)
            ∙ ap (λ xs. before.0 ++ xs) (sym (unnamed-cons c.args.kind n a rest))
            ∙ ap (λ xs. before.0 ++ unnamed_parts c.args.kind n xs) (sym c.in-Some.ensures.steps) ∙ before.2,
      );
}

pub returns-clause-noted : goal.returns-clause-noted
returns-clause-noted c = λ n extents notes.
    let before = c.loop-attribute.invariant.noted n extents notes in
    subst (λ ps. NotesStream ps c.loop-attribute.self)
    (sym (append-nil before.0) ∙ ap (λ xs. before.0 ++ unnamed_parts c.args.kind n xs) (sym c.in-None.ensures.steps.0) ∙ before.2) before.1
