use Rattle.std.proofs.Common.{◌+◌, length, take, None, sym, ap, ◌∙◌, arith, length-append}
use Rattle.std.proofs.lemmas.List.{take_all}
use Rattle.std.specs.Prelude.{slice_index_or}
use Rattle.ntfs_def.specs.declared.run_text.Run.{Run}
use Rattle.ntfs_def.specs.Runs.{clusters_of, run_clusters}
use Rattle.data_runs.proofs.PieceLaws.{clusters_of-more, length-IsRunList, length-clusters_most, length-none, length-run_clusters, total-is}
use Rattle.data_runs.proofs.pieces.total_of.Goals as goal

abbrev none : Run
none = record { len = 0; lcn = None }

pub runs-init : goal.runs-init
runs-init c = sym length-none

pub overflow_add-total : goal.overflow_add-total
overflow_add-total c =
    let runs = c.args.runs.now in
    let i = c.runs.run-index in
    let run = slice_index_or runs i none in
    omega (
      arith,
      ap length (clusters_of-more runs i none c.runs-test.true),
      c.runs.invariant,
      length-append (clusters_of (take i runs)) (run_clusters run),
      length-run_clusters run,
      length-clusters_most runs (i + 1),
      length-IsRunList runs c.requires,
    )

pub runs-preserved : goal.runs-preserved
runs-preserved c =
    let runs = c.args.runs.now in
    let i = c.runs.run-index in
    let run = slice_index_or runs i none in
    omega (
      arith,
      ap length (clusters_of-more runs i none c.runs-test.true),
      c.runs.invariant,
      length-append (clusters_of (take i runs)) (run_clusters run),
      length-run_clusters run,
    )

pub returns : goal.returns
returns c =
    c.runs.invariant ∙ ap (λ runs. length (clusters_of runs)) (take_all c.runs.run-index c.args.runs.now (omega (arith, c.runs-test.false)))
    ∙ total-is c.args.runs.now
