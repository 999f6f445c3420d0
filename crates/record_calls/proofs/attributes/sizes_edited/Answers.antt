use Rattle.record_calls.proofs.EditCalls as laws
use Rattle.record_calls.proofs.attributes.sizes_edited.Goals as goal

pub returns : goal.returns
returns c = laws.sizes-edit
