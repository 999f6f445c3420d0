use Rattle.made_edits.proofs.FreshMade.{fresh-file}
use Rattle.made_edits.proofs.RestMade as laws
use Rattle.made_edits.proofs.left.rest_made.Goals as goal

pub returns : goal.returns
returns c = record { rest = laws.keeps-rest; fresh = fresh-file }
