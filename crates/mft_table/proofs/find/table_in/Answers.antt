use Rattle.mft_table.proofs.NoTable.{none-stored}
use Rattle.mft_table.proofs.find.table_in.Goals as goal

pub returns-in-Some-clause-none : goal.returns-in-Some-clause-none
returns-in-Some-clause-none c = none-stored _ c.args.geometry.now c.args.block.now _ c.in-Some.ensures.some.1 c.read_table.ensures.none
