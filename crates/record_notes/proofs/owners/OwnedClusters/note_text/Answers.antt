use Rattle.std.proofs.Common.{◌≡◌, ◌++◌, ◌∙◌, ap, sym, subst, Some, [], unwrap_or}
use Rattle.ntfs_def.specs.Runs.{runs_in}
use Rattle.record_notes.specs.Owners.{RunsNote}
use Rattle.record_notes.proofs.owners.OwnedClusters.note_text.Goals as goal

pub returns-clause-noted : goal.returns-clause-noted
returns-clause-noted c = λ runs notes.
    let means : runs_in c.args.text.now ≡ Some c.in-Some.list = sym c.in_ok-list.ensures ∙ c.in-Some.is in
    subst (λ xs. RunsNote (runs ++ xs) c.note_runs.new.self) (c.runs.ensures.runs ∙ sym (ap (λ o. unwrap_or o []) means))
    (c.note_runs.ensures.noted runs notes)
