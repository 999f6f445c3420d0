use Rattle.record_calls.proofs.Rows as laws
use Rattle.record_calls.proofs.records.free_found.Goals as goal

pub returns : goal.returns
returns c = record { inside = laws.free-inside; unused = laws.free-unused }
