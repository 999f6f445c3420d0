use Rattle.volume_format.proofs.Fits.{FitsPlan-chosen, items-fit}
use Rattle.volume_format.proofs.laws.plan_laws.Goals as goal

pub returns : goal.returns
returns c = record { chosen = FitsPlan-chosen; items = items-fit }
