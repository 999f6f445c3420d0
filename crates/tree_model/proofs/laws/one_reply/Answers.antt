use Rattle.tree_model.proofs.StepLaws as laws
use Rattle.tree_model.proofs.laws.one_reply.Goals as goal

pub returns : goal.returns
returns c = laws.one_reply
