use Rattle.std.proofs.Common.{sym, ◌∙◌}
use Rattle.mount_check.proofs.PlaceLaws.{spot-decided}
use Rattle.mount_check.proofs.mirror_place.lies_at.Goals as goal

pub returns-in-At : goal.returns-in-At
returns-in-At c = spot-decided _ c.in-At.cluster _ c.is_behind.result (sym c.spot.ensures ∙ c.in-At.is) c.is_behind.ensures
