use Rattle.value_owed.proofs.ValueCommands.{bill-value, value-room}
use Rattle.value_owed.proofs.laws.value_has_room.Goals as goal

pub returns : goal.returns
returns c = record { bill = bill-value; room = value-room }
