-- A volume that is checked, as far as the check has come.
use Rattle.std.specs.Prelude.{ℕ, ◌≤◌}
use Rattle.volume_def.specs.Sound.{HoldBelow}
use Rattle.volume_def.specs.View.{VolumeView}

-- The check has come to the clause of this rank: those before it hold, and the table has the records of the system.
pub record HasComeTo (view : VolumeView) (rank : ℕ) : Type 0 where
  pub before : HoldBelow view rank
  pub records : 24 ≤ view.layout.count
