use Rattle.file_record.proofs.LinkLaws.{base-held}
use Rattle.file_record.proofs.laws.base_law.Goals as goal

pub returns : goal.returns
returns c = base-held
