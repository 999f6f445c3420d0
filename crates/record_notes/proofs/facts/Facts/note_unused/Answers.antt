use Rattle.std.proofs.Common.{refl}
use Rattle.record_notes.proofs.FactsLaws.{FactsNote-right, MeetsAttributes-none, RightNote-unused}
use Rattle.record_notes.proofs.facts.Facts.note_unused.Goals as goal

pub returns-clause-noted : goal.returns-clause-noted
returns-clause-noted c = λ records n is note.
    let facts = c.args.self.now in
    FactsNote-right records n facts _ refl (MeetsAttributes-none records n is)
    (RightNote-unused records n facts c.note_unused.new.self is (c.in_ok-note_unused.ensures records n is)) note
