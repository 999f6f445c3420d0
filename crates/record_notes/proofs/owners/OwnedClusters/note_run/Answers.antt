use Rattle.std.proofs.Common.{◌≡◌, ◌+◌, ◌∷◌, ◌++◌, [], cond, min, ap, sym, subst, ◌∙◌}
use Rattle.volume_def.specs.Coverage.{is_in_run, times_covered}
use Rattle.record_notes.specs.Owners.{CountsNote, inside}
use Rattle.record_notes.proofs.OwnersLaws.{Counts-same}
use Rattle.record_notes.proofs.CoverageLaws.{covered-push}
use Rattle.record_notes.proofs.owners.OwnedClusters.note_run.Goals as goal

pub returns-clause-noted : goal.returns-clause-noted
returns-clause-noted c = λ runs notes.
    let run = c.args.run.now in
    let lcn = c.in-Some.lcn in
    let inside_now = c.note_inside.new.self in
    let within : c.min.result ≡ min (lcn + run.len) c.note_inside.new.self.clusters =
    c.min.ensures ∙ ap (λ n. min (lcn + run.len) n) (sym c.note_inside.ensures.clusters) in
    let ranged = subst (λ n. CountsNote (λ k. times_covered runs k + inside lcn n k) inside_now) within
    (c.note_inside.ensures.noted (times_covered runs) notes) in
    Counts-same (λ k. times_covered runs k + inside lcn (lcn + run.len) k) (times_covered (runs ++ run ∷ [])) _ _ _
    (λ k. ap (λ o. times_covered runs k + cond (is_in_run o run.len k) 1 0) (sym c.in-Some.is) ∙ sym (covered-push runs run k))
    (c.note_past.ensures.noted (times_covered runs) ranged)
