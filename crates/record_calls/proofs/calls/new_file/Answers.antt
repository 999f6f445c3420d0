use Rattle.record_calls.proofs.WholeCalls as laws
use Rattle.record_calls.proofs.calls.new_file.Goals as goal

pub returns : goal.returns
returns c = record { edited = laws.edited-new; ready = laws.ready-new }
