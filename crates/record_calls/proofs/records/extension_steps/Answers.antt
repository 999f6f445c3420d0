use Rattle.record_calls.proofs.RecordCalls as laws
use Rattle.record_calls.proofs.records.extension_steps.Goals as goal

pub returns : goal.returns
returns c = record { taken = laws.extension-taken; freed = laws.extension-freed }
