use Rattle.record_notes.proofs.owners.note.is_unnamed_data.Goals as goal

pub returns : goal.returns
returns c = c.is_unnamed.ensures 0
