use Rattle.record_calls.proofs.WholeCalls as laws
use Rattle.record_calls.proofs.calls.value_comes.Goals as goal

pub returns : goal.returns
returns c = record { edited = laws.edited-comes; ready = laws.ready-comes }
