use Rattle.first_mark.proofs.BehindLaws.{marks-behind}
use Rattle.first_mark.proofs.FinishedLaws.{finished}
use Rattle.first_mark.proofs.MarkedBlocks.{rewrites-marked}
use Rattle.first_mark.proofs.MarkedVolume.{marked-from}
use Rattle.first_mark.proofs.laws.first_mark_laws.Goals as goal

pub returns : goal.returns
returns c = record { rewrites = rewrites-marked; marked = marked-from; behind = marks-behind; finished = finished }
