use Rattle.index_puts.proofs.PutVolume.{current-still, other-items, same-depth}
use Rattle.index_takes.proofs.TakeVolume.{as-put, item-there, items-changed, like}
use Rattle.index_takes.proofs.laws.take_items.Goals as goal

pub returns-clause-there : goal.returns-clause-there
returns-clause-there c old new dir key was takes has = item-there old new dir key takes was has

pub returns-clause-items : goal.returns-clause-items
returns-clause-items c old new dir key was item takes has at = items-changed old new dir key takes was item has at

pub returns-clause-others : goal.returns-clause-others
returns-clause-others c old new dir key takes can g ne =
    other-items old new dir (like old new dir key takes) (as-put old new dir key takes) can.owners can.readable can.bases g ne

pub returns-clause-current : goal.returns-clause-current
returns-clause-current c old new dir key takes owners f other is =
    current-still old new dir (like old new dir key takes) (as-put old new dir key takes) owners f other is

pub returns-clause-depths : goal.returns-clause-depths
returns-clause-depths c old new dir key takes owners index apart =
    same-depth old new dir (like old new dir key takes) (as-put old new dir key takes) owners index apart
