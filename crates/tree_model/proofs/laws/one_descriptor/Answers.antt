use Rattle.tree_model.proofs.FactsLaws as laws
use Rattle.tree_model.proofs.laws.one_descriptor.Goals as goal

pub returns : goal.returns
returns c = laws.one_told
