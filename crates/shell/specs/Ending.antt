-- The statuses of the program.
use Rattle.std.specs.Prelude.{ℕ}
use Rattle.shell.specs.declared.ending.Ending.{Ending}
use Rattle.shell.specs.declared.ending.Ending.TheVariants as ending

abbrev pub status_of : Ending → ℕ
status_of ending.Done = 0
status_of ending.Refused = 3
status_of ending.Source = 4
status_of ending.Sink = 5
status_of ending.Device = 6
status_of ending.Memory = 7
status_of ending.TooMuch = 8
