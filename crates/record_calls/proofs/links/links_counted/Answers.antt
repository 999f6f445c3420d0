use Rattle.record_calls.proofs.LinkCalls as laws
use Rattle.record_calls.proofs.links.links_counted.Goals as goal

pub returns : goal.returns
returns c = laws.counts-file
