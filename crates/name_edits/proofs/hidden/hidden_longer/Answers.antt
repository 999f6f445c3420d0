use Rattle.name_edits.proofs.HiddenFiles as laws
use Rattle.name_edits.proofs.hidden.hidden_longer.Goals as goal

pub returns : goal.returns
returns c = laws.hidden-longer
