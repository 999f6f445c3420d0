use Rattle.volume_def.proofs.ReadableLaws.{readable-list, readable-part, readable-stream}
use Rattle.volume_def.proofs.clause_laws.readable_laws.Goals as goal

pub returns : goal.returns
returns c = record { stream = readable-stream; list = readable-list; part = readable-part }
