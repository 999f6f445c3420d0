use Rattle.in_place.proofs.NodesOwed as laws
use Rattle.in_place.proofs.exact.nodes_owed.Goals as goal

pub returns : goal.returns
returns c = laws.nodes-kept
