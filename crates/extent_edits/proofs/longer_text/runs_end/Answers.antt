use Rattle.std.proofs.Common.{◌≡◌, None, length, subst, arith, length-drop}
use Rattle.ntfs_def.specs.declared.run_text.Run.{Run}
use Rattle.extent_edits.specs.Texts.{SpellsFirst}
use Rattle.extent_edits.proofs.TextLaws.{MeansFrom-some, SpellsFirst-next, SpellsFirst-none, next-inside}
use Rattle.extent_edits.proofs.longer_text.runs_end.Goals as goal

abbrev none : Run
none = record { len = 0; lcn = None }

pub runs-init : goal.runs-init
runs-init c = record { within = omega arith; spells = SpellsFirst-none c.args.text.now c.args.runs.now c.requires }

pub run_width-at-requires : goal.run_width-at-requires
run_width-at-requires c =
    omega (arith, next-inside c.args.text.now c.args.runs.now c.runs.at c.runs.whole none c.runs.invariant.spells c.runs-test.true)

pub overflow_add-at : goal.overflow_add-at
overflow_add-at c =
    let inside = next-inside c.args.text.now c.args.runs.now c.runs.at c.runs.whole none c.runs.invariant.spells c.runs-test.true in
    omega (arith, inside, c.run_width-at.ensures)

pub runs-preserved : goal.runs-preserved
runs-preserved c = record {
  within = omega (arith, c.runs-test.true);
  spells = rw c.run_width-at.ensures (SpellsFirst-next c.args.text.now c.args.runs.now c.runs.at c.runs.whole none c.runs.invariant.spells
      c.runs-test.true);
}

pub returns-clause-spells : goal.returns-clause-spells
returns-clause-spells c =
    let all : c.runs.whole ≡ length c.args.runs.now = omega (arith, c.runs-test.false) in
    subst (SpellsFirst c.args.text.now c.args.runs.now c.runs.at) all c.runs.invariant.spells

pub returns-clause-inside : goal.returns-clause-inside
returns-clause-inside c =
    let s = c.runs.invariant.spells in
    omega (arith, MeansFrom-some _ s.last s.total _ s.rest, length-drop c.runs.at c.args.text.now)
