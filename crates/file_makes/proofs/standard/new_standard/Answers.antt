use Rattle.file_makes.proofs.FieldsKept.{zeros-whole}
use Rattle.file_makes.proofs.standard.new_standard.Goals as goal

pub put_standard-requires-clause-zeros : goal.put_standard-requires-clause-zeros
put_standard-requires-clause-zeros c k = zeros-whole 72 k
