-- Why a report could not be made, by the disk's count of faults.
use Rattle.std.specs.Prelude.{◌≡◌, ℕ}
use Rattle.vol_disk.specs.Count.{Rose}
use Rattle.shell.specs.declared.stop.Stop.{Stop}
use Rattle.shell.specs.declared.stop.Stop.TheVariants.{Device, Memory}

abbrev pub CountsNo : ℕ → ℕ → Stop → Type 0
CountsNo before after Device = Rose before after
CountsNo before after Memory = after ≡ before
