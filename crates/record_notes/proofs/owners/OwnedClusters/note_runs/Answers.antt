use Rattle.std.proofs.Common.{◌++◌, ◌∷◌, [], ◌∙◌, ap, get_or, subst, sym, take, None, append_assoc}
use Rattle.std.proofs.lemmas.List.{take_all, take_more}
use Rattle.record_notes.specs.Owners.{RunsNote}
use Rattle.record_notes.proofs.CoverageLaws.{IsRunListFrom-at}
use Rattle.record_notes.proofs.owners.OwnedClusters.note_runs.Goals as goal

pub note_run-requires : goal.note_run-requires
note_run-requires c = IsRunListFrom-at 0 c.args.list.now c.loop-run.run-index _ c.requires c.loop-run-test.true

pub loop-run-preserved : goal.loop-run-preserved
loop-run-preserved c = record {
  clusters = c.note_run.ensures.clusters ∙ c.loop-run.invariant.clusters;
  noted = λ runs notes.
      let list = c.args.list.now in
      let i = c.loop-run.run-index in
      let here = get_or list i (record { len = 0; lcn = None }) in
      let more = take_more list i (record { len = 0; lcn = None }) c.loop-run-test.true in
      subst (λ xs. RunsNote xs c.note_run.new.self) (append_assoc runs (take i list) (here ∷ []) ∙ ap (λ xs. runs ++ xs) (sym more))
      (c.note_run.ensures.noted (runs ++ take i list) (c.loop-run.invariant.noted runs notes));
}

pub returns-clause-noted : goal.returns-clause-noted
returns-clause-noted c = λ runs notes.
    subst (λ xs. RunsNote (runs ++ xs) c.loop-run.self) (take_all c.loop-run.run-index c.args.list.now c.loop-run-test.false)
    (c.loop-run.invariant.noted runs notes)
