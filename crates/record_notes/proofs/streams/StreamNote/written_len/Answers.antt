use Rattle.std.proofs.Common.{min, sym, ap, ◌∙◌}
use Rattle.volume_def.specs.BitmapClauses.{written_by}
use Rattle.volume_def.specs.StreamSize.{told_size}
use Rattle.volume_def.specs.Values.{first_part}
use Rattle.record_notes.proofs.StreamLaws.{first-noted, none-noted}
use Rattle.record_notes.proofs.streams.StreamNote.written_len.Goals as goal

pub returns-in-Some : goal.returns-in-Some
returns-in-Some c = λ extents notes.
    let first = c.in-Some.first in
    let (part, is, tells) = first-noted extents c.args.self.now first c.in-Some.is notes in
    c.min.ensures ∙ ap (λ k. min k first.written) (tells.len ∙ sym (ap told_size is))
    ∙ ap (λ k. min (told_size (first_part extents)) k) (tells.written ∙ sym (ap written_by is))

pub returns-in-None : goal.returns-in-None
returns-in-None c = λ extents notes.
    sym (ap (λ o. min (told_size o) (written_by o)) (none-noted extents c.args.self.now c.in-None.is notes))
