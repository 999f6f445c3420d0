use Rattle.record_calls.proofs.WholeCalls as laws
use Rattle.record_calls.proofs.calls.value_resized.Goals as goal

pub returns : goal.returns
returns c = record { edited = laws.edited-resized; ready = laws.ready-resized }
