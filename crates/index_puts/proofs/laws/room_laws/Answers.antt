use Rattle.index_puts.proofs.RoomStays.{leaf-stays, root-stays}
use Rattle.index_puts.proofs.laws.room_laws.Goals as goal

pub returns-clause-leaf : goal.returns-clause-leaf
returns-clause-leaf c old new dir key len same value size fold = leaf-stays old new dir key len same value size fold

pub returns-clause-root : goal.returns-clause-root
returns-clause-root c old new dir len same block = root-stays old new dir len same block
