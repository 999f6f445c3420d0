use Rattle.volume_format.proofs.Images.{HoldsItem-stands}
use Rattle.volume_format.proofs.laws.item_laws.Goals as goal

pub returns : goal.returns
returns c = HoldsItem-stands
