use Rattle.std.proofs.Common.{ap, length}
use Rattle.vol_stage.proofs.WriteLaws.{places_of-none}
use Rattle.vol_stage.proofs.stage.Stage.over.Goals as goal

pub returns-clause-places : goal.returns-clause-places
returns-clause-places g c = places_of-none c.new.result.items (ap length c.new.ensures.items)
