use Rattle.std.proofs.Common.{◌+◌, ◌*◌, length}
use Rattle.file_makes.proofs.FieldsKept.{zeros-front}
use Rattle.file_makes.proofs.key.new_key.Goals as goal

pub put_key-requires-clause-zeros : goal.put_key-requires-clause-zeros
put_key-requires-clause-zeros c k = zeros-front (66 + 2 * length c.args.name.now) 576 k
