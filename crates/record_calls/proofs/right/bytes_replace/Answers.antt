use Rattle.record_calls.proofs.ValueBytes as laws
use Rattle.record_calls.proofs.right.bytes_replace.Goals as goal

pub returns : goal.returns
returns c = laws.bytes-replace
