use Rattle.mft_table.specs.Mft.{view}
use Rattle.check_dirs.proofs.SortedNotes.{all-noted}
use Rattle.check_dirs.proofs.noting.note_files.Goals as goal

pub returns-clause-notes : goal.returns-clause-notes
returns-clause-notes g c = λ told readable.
    all-noted (view g.D.Disk c.args.mft.now) _ _ (c.in_ok-note_all.ensures.noted told readable) c.in_ok-into_notes.ensures
