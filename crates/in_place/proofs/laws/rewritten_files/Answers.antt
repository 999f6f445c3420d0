use Rattle.in_place.proofs.BasesSame.{bases-same}
use Rattle.in_place.proofs.PlacesSame.{names-kept}
use Rattle.in_place.proofs.RoomSame as room
use Rattle.in_place.proofs.laws.rewritten_files.Goals as goal

pub returns : goal.returns
returns c = record {
  used = room.used-same;
  bare = room.bare-same;
  numbers = room.numbers-same;
  bases = bases-same;
  names = names-kept;
}
