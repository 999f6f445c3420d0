use Rattle.std.proofs.Common.{sym, ap, ◌∙◌}
use Rattle.volume_def.specs.StreamSize.{told_size}
use Rattle.record_notes.proofs.StreamLaws.{first-noted, none-noted}
use Rattle.record_notes.proofs.streams.StreamNote.value_len.Goals as goal

pub returns-in-Some : goal.returns-in-Some
returns-in-Some c = λ extents notes.
    let (part, is, tells) = first-noted extents c.args.self.now c.in-Some.first c.in-Some.is notes in
    tells.len ∙ sym (ap told_size is)

pub returns-in-None : goal.returns-in-None
returns-in-None c = λ extents notes. sym (ap told_size (none-noted extents c.args.self.now c.in-None.is notes))
