use Rattle.file_record.proofs.RecordLaws.{shape-refused}
use Rattle.file_record.proofs.record.count_of.Goals as goal

pub returns-in-Err-clause-none : goal.returns-in-Err-clause-none
returns-in-Err-clause-none c own = shape-refused c.args.block.now c.in-Err.field-0 c.in-Err.ensures.err own.shape
