use Rattle.tree_model.proofs.HasFacts as laws
use Rattle.tree_model.proofs.laws.has_facts.Goals as goal

pub returns : goal.returns
returns c = laws.has_facts
