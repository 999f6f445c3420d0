use Rattle.std.proofs.Common.{ap}
use Rattle.std.specs.Option.{option_map}
use Rattle.record_notes.proofs.StreamLaws.{first-noted, no-value-noted, none-noted, none-valued}
use Rattle.record_notes.proofs.streams.StreamNote.resident.Goals as goal

pub returns-in_default-clause-none : goal.returns-in_default-clause-none
returns-in_default-clause-none c = λ extents notes. none-valued extents (none-noted extents c.args.self.now c.in_default.is notes)

pub returns-in-None-clause-none : goal.returns-in-None-clause-none
returns-in-None-clause-none c = λ extents notes.
    let first = c.in-Some.first in
    let (part, is, tells) = first-noted extents c.args.self.now first c.in-Some.is notes in
    no-value-noted extents part first is tells (ap (option_map (λ bytes. bytes.items)) c.in-None.is)
