use Rattle.std.proofs.Common.{ap, sym, ◌∙◌}
use Rattle.tree_model.specs.Answers.{path_above}
use Rattle.tree_model.proofs.PlaceLaws.{put-here, put-last}
use Rattle.plain_tree.proofs.lists.place_of.Goals as goal

pub returns-then-not-behind-clause-place : goal.returns-then-not-behind-clause-place
returns-then-not-behind-clause-place c =
    put-here path_above c.args.line.now c.args.lines.now c.lines.place c.index-lines-place.result c.lines-test.true
    (ap (path_above c.args.line.now) (sym c.index-lines-place.is) ∙ sym c.in_ok-behind.ensures.ok ∙ c.if-not-behind.true)
    c.lines.invariant

pub returns-clause-place : goal.returns-clause-place
returns-clause-place c =
    put-last path_above c.args.line.now c.args.lines.now c.lines.place c.lines-test.false c.lines.auto.place-end c.lines.invariant
