use Rattle.tree_read.proofs.NodeLaws.{stat-read}
use Rattle.tree_read.proofs.node.stat.Goals as goal

pub returns-in-Ok-clause-ok : goal.returns-in-Ok-clause-ok
returns-in-Ok-clause-ok c = λ view n case.
    stat-read view c.args.held.now n _ _ _ _ _ _ c.is_directory.ensures (c.link_count.ensures view n) (c.in-Ok.ensures view n case)
    c.read_standard-told.ensures.times c.read_standard-told.ensures.flags c.read_standard-told.ensures.security
