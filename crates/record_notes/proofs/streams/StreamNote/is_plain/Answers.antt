use Rattle.std.proofs.lemmas.Bool.{false≢true}
use Rattle.record_notes.proofs.StreamLaws.{first-noted, none-noted, plain-noted, unplain-noted}
use Rattle.record_notes.proofs.streams.StreamNote.is_plain.Goals as goal

pub returns-in-Some : goal.returns-in-Some
returns-in-Some c = λ extents notes.
    let (part, is, tells) = first-noted extents c.args.self.now c.in-Some.first c.in-Some.is notes in
    plain-noted extents part c.in-Some.first.packed is tells.packed

pub returns-in-None : goal.returns-in-None
returns-in-None c = λ extents notes.
    (λ f. absurd (false≢true f), λ plain. absurd (unplain-noted extents (none-noted extents c.args.self.now c.in-None.is notes) plain))
