use Rattle.in_place.proofs.PlacesSame.{right-same}
use Rattle.in_place.proofs.RoomSame as laws
use Rattle.in_place.proofs.laws.rewritten_room.Goals as goal

pub returns : goal.returns
returns c = record {
  room = laws.room-same;
  spent = laws.spent;
  owners = laws.unowned-same;
  in_use_is = laws.in_use-same;
  bits = right-same;
}
