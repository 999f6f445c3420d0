use Rattle.record_notes.proofs.LimitLaws.{long-none}
use Rattle.record_notes.proofs.limits.LongStreams.new.Goals as goal

pub returns : goal.returns
returns c = λ records. long-none records
