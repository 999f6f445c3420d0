use Rattle.record_calls.proofs.RecordCalls as laws
use Rattle.record_calls.proofs.records.file_made.Goals as goal

pub returns : goal.returns
returns c = record { made = laws.made; costs = laws.costs }
