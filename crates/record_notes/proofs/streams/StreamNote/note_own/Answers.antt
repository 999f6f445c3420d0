use Rattle.std.proofs.Common.{cond, [], ◌++◌, append-nil, sym, subst}
use Rattle.attr_view.specs.View.{attributes_of}
use Rattle.record_notes.specs.Streams.{NotesStream, unnamed_parts}
use Rattle.record_notes.proofs.streams.StreamNote.note_own.Goals as goal

pub returns-then-not-own-clause-noted : goal.returns-then-not-own-clause-noted
returns-then-not-own-clause-noted c = λ n extents notes.
    subst (λ b. NotesStream (extents ++ cond b (unnamed_parts c.args.kind n (attributes_of c.args.view.now)) []) c.args.self.now)
    (sym c.if-not-own.true) (subst (λ ps. NotesStream ps c.args.self.now) (sym (append-nil extents)) notes)

pub returns-clause-noted : goal.returns-clause-noted
returns-clause-noted c = λ n extents notes.
    subst (λ b. NotesStream (extents ++ cond b (unnamed_parts c.args.kind n (attributes_of c.args.view.now)) []) c.note_record.new.self)
    (sym c.if-not-own.false) (c.in_ok-note_record.ensures.noted n extents notes)
