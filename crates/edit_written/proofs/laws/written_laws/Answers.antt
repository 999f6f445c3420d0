use Rattle.edit_written.proofs.AgreesLaws.{agrees}
use Rattle.edit_written.proofs.BehindLaws.{behind}
use Rattle.edit_written.proofs.BitsKept.{bits-stored}
use Rattle.edit_written.proofs.laws.written_laws.Goals as goal

pub returns : goal.returns
returns c = record { agrees = agrees; behind = behind; stored = bits-stored }
