use Rattle.std.proofs.Common.{◌≤◌, ◌++◌, None, length, take, sym, ap, ◌∙◌, arith}
use Rattle.std.proofs.lemmas.List.{drop_all, get_or_default}
use Rattle.ntfs_def.specs.declared.run_text.Run.{Run}
use Rattle.ntfs_def.specs.Runs.{clusters_of}
use Rattle.data_runs.proofs.PieceLaws.{clusters_of-none}
use Rattle.data_runs.proofs.SplitLaws.{cut-next, take-none}
use Rattle.extent_edits.proofs.RunBytes.{run_length-small}
use Rattle.extent_edits.proofs.TextLaws.{SpellsFirst-next, SpellsFirst-none, next-begins, next-inside}
use Rattle.extent_edits.proofs.text.end_of.Goals as goal

abbrev none : Run
none = record { len = 0; lcn = None }

pub runs-init : goal.runs-init
runs-init c = record {
  within = omega arith;
  spells = SpellsFirst-none c.args.text.now c.args.runs.now c.requires;
  cut = ap (λ front. front ++ take c.args.count (clusters_of c.args.runs.now)) (sym clusters_of-none);
}

pub run_width-at-requires : goal.run_width-at-requires
run_width-at-requires c =
    omega (arith, next-inside c.args.text.now c.args.runs.now c.runs.at c.runs.whole none c.runs.invariant.spells c.runs-test.true)

pub overflow_add-at : goal.overflow_add-at
overflow_add-at c =
    let inside = next-inside c.args.text.now c.args.runs.now c.runs.at c.runs.whole none c.runs.invariant.spells c.runs-test.true in
    omega (arith, inside, c.run_width-at.ensures)

pub runs-preserved : goal.runs-preserved
runs-preserved c = record {
  within = omega (arith, c.runs-test.true);
  spells = rw c.run_width-at.ensures (SpellsFirst-next c.args.text.now c.args.runs.now c.runs.at c.runs.whole none c.runs.invariant.spells
      c.runs-test.true);
  cut = cut-next c.args.runs.now c.runs.whole c.runs.left c.args.count none c.runs-test.true c.if-left-runs.false c.runs.invariant.cut;
}

pub returns : goal.returns
returns c =
    let past : length c.args.runs.now ≤ c.runs.whole = omega (arith, c.runs-test.false) in
    let runs = c.args.runs.now in
    let whole = c.runs.whole in
    let rest = drop_all whole runs past in
    record {
      whole = whole;
      spells = c.runs.invariant.spells;
      part = λ some. absurd (omega (arith, some));
      less = λ d some. absurd (omega (arith, some));
      fits = λ some. absurd (omega (arith, some));
      cut = c.runs.invariant.cut ∙ ap (λ r. clusters_of (take whole runs) ++ take c.runs.left (clusters_of r)) rest
          ∙ ap (λ r. clusters_of (take whole runs) ++ take c.runs.left r) clusters_of-none
          ∙ ap (λ r. clusters_of (take whole runs) ++ r) (take-none c.runs.left);
    }

pub returns-then-left-runs : goal.returns-then-left-runs
returns-then-left-runs c =
    let text = c.args.text.now in
    let runs = c.args.runs.now in
    let first = next-begins text runs c.runs.at c.runs.whole none c.runs.invariant.spells c.runs-test.true in
    let small = run_length-small text c.runs.at (λ k. (c.type_inv.text k).fits) in
    record {
      whole = c.runs.whole;
      spells = c.runs.invariant.spells;
      part = λ some. c.runs-test.true;
      less = λ d some. let same =
          ap (λ (run : Run). run.len) (get_or_default runs c.runs.whole d none c.runs-test.true) in omega
          (arith, same, c.if-left-runs.true);
      fits = λ some. omega (arith, c.if-left-runs.true, first.len, small);
      cut = c.runs.invariant.cut;
    }
