use Rattle.std.proofs.Common.{◌++◌, append-nil, ap, sym, subst, ◌∙◌}
use Rattle.attr_view.specs.View.{attribute_of}
use Rattle.record_notes.specs.Streams.{NotesStream}
use Rattle.record_notes.proofs.StreamLaws.{unnamed-no, unnamed-yes}
use Rattle.record_notes.proofs.streams.StreamNote.note_attribute.Goals as goal

pub returns-then-not-is_unnamed-clause-noted : goal.returns-then-not-is_unnamed-clause-noted
returns-then-not-is_unnamed-clause-noted c = λ n extents.
    subst (λ ps. NotesStream ps c.args.self.now)
    (sym (ap (λ xs. extents ++ xs) (unnamed-no c.args.kind n (attribute_of c.args.attribute.now)
    (sym (c.is_unnamed.ensures n) ∙ c.if-not-is_unnamed.true)) ∙ append-nil extents))

pub returns-clause-noted : goal.returns-clause-noted
returns-clause-noted c = λ n extents notes.
    subst (λ ps. NotesStream ps c.note_part.new.self)
    (sym (ap (λ xs. extents ++ xs) (unnamed-yes c.args.kind n (attribute_of c.args.attribute.now)
    (sym (c.is_unnamed.ensures n) ∙ c.if-not-is_unnamed.false))))
    (c.in_ok-note_part.ensures.noted n extents notes)
