-- How drawn lines ended that were run on the image.
use Rattle.std.specs.Prelude.{◌≡◌, ◌≢◌, ℕ}
use Rattle.script_run.specs.Says.{of_seed}
use Rattle.shell.specs.declared.ending.Ending.{Ending}
use Rattle.shell.specs.declared.ending.Ending.TheVariants as ending
use Rattle.shell.specs.Ending.{status_of}
use Rattle.shell.specs.Run.{RunEnds}
use Rattle.shell.specs.World.{World}

-- THE WORD MAKE ended so: as one that runs the lines drawn behind this seed, so many. The source is left alone, so it is no cause.
pub record MakeEnds (seed count : ℕ) (given : Ending) (old new : World) : Type 0 where
  pub ends : RunEnds (λ from. from ≡ of_seed seed count) given old new
  pub left : new.left ≡ old.left
  pub source_faults : new.source_faults ≡ old.source_faults
  pub unread : given ≢ ending.Source
  pub within : given ≢ ending.TooMuch

-- the status is that of such an ending
abbrev pub AnswersMake : ℕ → ℕ → World → ℕ → World → Type 0
AnswersMake count seed old status new = (given : Ending) × (status ≡ status_of given) × MakeEnds seed count given old new
