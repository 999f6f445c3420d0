use Rattle.tree_model.proofs.IndexRoomLaws as laws
use Rattle.tree_model.proofs.laws.index_room_laws.Goals as goal

pub returns : goal.returns
returns c = record { depth = laws.depth-walk; entries = laws.entry-walk }
