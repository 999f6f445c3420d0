use Rattle.record_calls.proofs.WholeCalls as laws
use Rattle.record_calls.proofs.calls.value_replaced.Goals as goal

pub returns : goal.returns
returns c = record { edited = laws.edited-replaced; ready = laws.ready-replaced }
