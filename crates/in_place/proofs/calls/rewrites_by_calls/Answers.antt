use Rattle.in_place.proofs.CallLaws as laws
use Rattle.in_place.proofs.calls.rewrites_by_calls.Goals as goal

pub returns : goal.returns
returns c = record { written = laws.written; streamed = laws.streamed }
