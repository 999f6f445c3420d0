use Rattle.tree_ops.proofs.TablesKept.{tables-taken}
use Rattle.tree_ops.proofs.create.stage_file.Goals as goal

pub returns-in-Ok-clause-keeps : goal.returns-in-Ok-clause-keeps
returns-in-Ok-clause-keeps g c =
    let taken = c.in-Ok.ensures.bits in
    tables-taken g.D.Disk c.args.mft.now c.make_found.new.mft taken.0 c.make_found.ensures.device taken.1 taken.2
