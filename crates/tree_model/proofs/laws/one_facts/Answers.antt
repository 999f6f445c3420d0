use Rattle.tree_model.proofs.FactsLaws as laws
use Rattle.tree_model.proofs.laws.one_facts.Goals as goal

pub returns : goal.returns
returns c = record { volume = laws.one_facts; image = laws.image_facts }
