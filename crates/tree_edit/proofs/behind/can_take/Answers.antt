use Rattle.std.proofs.Common.{◌∙◌}
use Rattle.tree_edit.proofs.ReachFound.{takes-less, takes-run}
use Rattle.tree_edit.proofs.behind.can_take.Goals as goal

pub returns-then-count_free-count : goal.returns-then-count_free-count
returns-then-count_free-count c = λ view volume.
    takes-less view c.args.mounted.now volume c.args.free c.args.count c.if-count-eq0.false c.if-free-lt-ONE_RUN.false c.count_free.result
    c.count_free.ensures c.if-count_free-count.true

pub returns-else-count_free-count : goal.returns-else-count_free-count
returns-else-count_free-count c = λ view volume.
    c.is_some.ensures
    ∙ takes-run view c.args.mounted.now volume c.args.free c.args.count c.if-count-eq0.false c.if-free-lt-ONE_RUN.false c.count_free.result
    c.count_free.ensures c.if-count_free-count.false c.free_run.result c.free_run.ensures.has c.free_run.ensures.none
