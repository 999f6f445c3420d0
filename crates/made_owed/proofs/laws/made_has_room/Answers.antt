use Rattle.made_owed.proofs.MadeBill.{bill-made}
use Rattle.made_owed.proofs.laws.made_has_room.Goals as goal

pub returns : goal.returns
returns c = bill-made
