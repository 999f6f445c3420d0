use Rattle.std.proofs.Common.{◌++◌, sym, subst}
use Rattle.attr_view.specs.View.{attribute_of}
use Rattle.record_notes.specs.Owners.{RunsNote}
use Rattle.record_notes.proofs.CoverageLaws.{runs-some}
use Rattle.record_notes.proofs.owners.OwnedClusters.note_attribute.Goals as goal

pub returns-clause-noted : goal.returns-clause-noted
returns-clause-noted c = λ runs notes.
    subst (λ xs. RunsNote (runs ++ xs) c.note_text.new.self)
    (sym (runs-some (attribute_of c.args.attribute.now).body c.in-Some.text.now (sym c.in-Some.ensures)))
    (c.in_ok-note_text.ensures.noted runs notes)
