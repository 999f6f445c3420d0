use Rattle.record_calls.proofs.RecordCalls as laws
use Rattle.record_calls.proofs.records.base_named.Goals as goal

pub returns : goal.returns
returns c = laws.base-named
