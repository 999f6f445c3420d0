use Rattle.made_edits.proofs.BetweenMade as laws
use Rattle.made_edits.proofs.between.between_made.Goals as goal

pub returns : goal.returns
returns c = record { flagged = laws.flagged; named = laws.has-new-file }
