use Rattle.std.proofs.Common.{◌+◌, ◌≤◌, [], ◌∷◌, ◌++◌, None, length, drop, get_or, refl, sym, ap, ◌∙◌, arith}
use Rattle.ntfs_def.specs.declared.run_text.Run.{Run}
use Rattle.ntfs_def.specs.Runs.{IsRunList, clusters_of}
use Rattle.data_runs.specs.Left.{without_first}
use Rattle.data_runs.proofs.PieceLaws.{clusters_of-none, reach-at}
use Rattle.extent_edits.proofs.BehindLaws.{behind-few, behind-list, behind-past, behind-push, behind-whole}
use Rattle.extent_edits.proofs.behind.runs_behind.Goals as goal
use Rattle.extent_edits.proofs.behind.runs_behind.Goals.{then-inside-run+in_ok-push, else-inside-run}

abbrev none : Run
none = record { len = 0; lcn = None }

pub runs-init : goal.runs-init
runs-init c = record {
  list = rw c.new-behind.ensures.items tt;
  clusters = rw (c.new-behind.ensures.items, clusters_of-none) refl;
}

pub without_first-requires-clause-reach : goal.without_first-requires-clause-reach
without_first-requires-clause-reach c =
    reach-at c.runs-run-items.result.now c.runs.run-index none (rw (sym c.runs-run-items.ensures.runs) at c.runs-run-items.ensures.limits)
    c.runs-test.true

pub runs-preserved : goal.runs-preserved
runs-preserved c =
    let runs = c.runs-run-items.result.now in
    let at = c.runs.run-index in
    let all : IsRunList runs = rw (sym c.runs-run-items.ensures.runs) at c.runs-run-items.ensures.limits in
    elim c.if-inside-run.branch [
      | then-inside-run+in_ok-push w ↦
          let run = get_or runs at none in
          let part = w.without_first.ensures in
          let pushed = rw part at w.in_ok-push.ensures.items in
          let next = behind-push runs c.runs.behind.items at c.runs.inside c.args.count none c.runs-test.true w.if-inside-run.true
          c.runs.invariant.clusters in
          let few = behind-few runs (c.runs.behind.items ++ without_first run c.runs.inside ∷ []) (at + 1) 0 c.args.count next in
          record {
            list = rw (w.behind-is, pushed) (behind-list runs c.runs.behind.items c.runs.inside run all c.runs.invariant.list
                w.if-inside-run.true (reach-at runs at none all c.runs-test.true) few);
            clusters = rw (w.behind-is, w.inside-is, pushed) next;
          }
      | else-inside-run w ↦ record {
        list = rw w.behind-is c.runs.invariant.list;
        clusters = rw (w.behind-is, w.inside-is) (behind-past runs c.runs.behind.items at c.runs.inside c.args.count none
            c.runs-test.true w.if-inside-run.false c.runs.invariant.clusters);
      }
    ]

pub returns-clause-clusters : goal.returns-clause-clusters
returns-clause-clusters c =
    let past : length c.runs-run-items.result.now ≤ c.runs.run-index = omega (arith, c.runs-test.false) in
    behind-whole c.runs-run-items.result.now c.runs.behind.items c.runs.run-index c.runs.inside c.args.count past c.runs.invariant.clusters
    ∙ ap (λ r. drop c.args.count (clusters_of r)) c.runs-run-items.ensures.runs

pub returns-clause-few : goal.returns-clause-few
returns-clause-few c =
    rw c.runs-run-items.ensures.runs at (behind-few c.runs-run-items.result.now c.runs.behind.items c.runs.run-index c.runs.inside
    c.args.count c.runs.invariant.clusters)
