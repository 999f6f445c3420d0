use Rattle.made_edits.proofs.LeftMade as laws
use Rattle.made_edits.proofs.left.left_made.Goals as goal

pub returns : goal.returns
returns c = laws.leaves-rest
