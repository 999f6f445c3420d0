use Rattle.name_edits.proofs.HiddenFiles as laws
use Rattle.name_edits.proofs.hidden.unnamed_shown.Goals as goal

pub returns : goal.returns
returns c = laws.unnamed-shown
