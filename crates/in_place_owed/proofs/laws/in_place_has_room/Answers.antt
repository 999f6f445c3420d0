use Rattle.in_place_owed.proofs.EmptyBill.{bill-empty, has-room}
use Rattle.in_place_owed.proofs.laws.in_place_has_room.Goals as goal

pub returns : goal.returns
returns c = record { bill = bill-empty; room = has-room }
