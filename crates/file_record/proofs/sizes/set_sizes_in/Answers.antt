use Rattle.file_record.proofs.RecordLaws.{shape-refused}
use Rattle.file_record.proofs.sizes.set_sizes_in.Goals as goal

pub unreachable-requires : goal.unreachable-requires
unreachable-requires c = shape-refused c.args.block.now c.in-Err.field-0 c.in-Err.ensures.err c.requires.shape
