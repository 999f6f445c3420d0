use Rattle.std.proofs.Common.{◌<◌, ◌≤◌, None, Some, ap, get_or, length, sym, ◌∙◌}
use Rattle.ntfs_def.specs.declared.run_text.Run.{Run}
use Rattle.data_runs.proofs.LeftLaws.{run_left-here, run_left-later, run_left-nowhere}
use Rattle.data_runs.proofs.SpotSteps.{IsRunListFrom-later}
use Rattle.data_runs.proofs.RunList.run_from.Goals as goal

pub loop-run-preserved : goal.loop-run-preserved
loop-run-preserved c =
    let d : Run = record { len = 0; lcn = None } in
    let lt : c.loop-run.run-index < length c.args.self.now = rw c.runs-run-items.ensures.runs at c.loop-run-test.true in
    let past : (get_or c.args.self.now c.loop-run.run-index d).len ≤ c.loop-run.inside =
    rw c.runs-run-items.ensures.runs at c.if-inside-run.false in
    let (total, list) = c.loop-run.invariant.list in
    let more = IsRunListFrom-later total c.args.self.now c.loop-run.run-index d lt list in
    rw c.runs-run-items.ensures.runs (record {
      list = (_, more.3);
      same = c.loop-run.invariant.same ∙ run_left-later c.args.self.now c.loop-run.run-index c.loop-run.inside d lt past;
    })

pub returns-clause-left : goal.returns-clause-left
returns-clause-left c =
    let all : length c.args.self.now ≤ c.loop-run.run-index = rw c.runs-run-items.ensures.runs at c.loop-run-test.false in
    sym (c.loop-run.invariant.same ∙ run_left-nowhere c.args.self.now c.loop-run.run-index c.loop-run.inside all)

pub returns-then-inside-run-clause-left : goal.returns-then-inside-run-clause-left
returns-then-inside-run-clause-left c =
    let d : Run = record { len = 0; lcn = None } in
    let lt : c.loop-run.run-index < length c.args.self.now = rw c.runs-run-items.ensures.runs at c.loop-run-test.true in
    let inside : c.loop-run.inside < (get_or c.args.self.now c.loop-run.run-index d).len =
    rw c.runs-run-items.ensures.runs at c.if-inside-run.true in
    sym (c.loop-run.invariant.same
    ∙ run_left-here c.args.self.now c.loop-run.run-index c.loop-run.inside d lt inside
    ∙ ap Some (sym (rw c.runs-run-items.ensures.runs at c.without_first.ensures)))
