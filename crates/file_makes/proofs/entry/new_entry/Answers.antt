use Rattle.file_makes.proofs.FieldsKept.{zeros-front}
use Rattle.file_makes.proofs.entry.new_entry.Goals as goal

pub put_entry-requires-clause-zeros : goal.put_entry-requires-clause-zeros
put_entry-requires-clause-zeros c k = zeros-front c.up_to_8.result 592 k
