use Rattle.volume_format.proofs.Fits.{FitsPlan-chosen}
use Rattle.volume_format.proofs.made.places_of.Goals as goal

pub new-requires : goal.new-requires
new-requires c =
    let chosen = FitsPlan-chosen _ _ c.requires in
    rw (c.from.ensures, c.from-2.ensures) (rw (← c.options.view_is) at chosen)
