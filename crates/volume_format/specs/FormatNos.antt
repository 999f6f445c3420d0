-- What the refusals of a new volume tell.
use Rattle.std.specs.Prelude.{◌≡◌, ℕ}
use Rattle.vol_disk.specs.Count.{Rose}
use Rattle.volume_format.specs.declared.error.FormatNo.{FormatNo}
use Rattle.volume_format.specs.declared.error.FormatNo.TheVariants.{Device, Memory, Options}

-- what they tell of the count of faults: only the disk raises it
abbrev pub CountsNo : ℕ → ℕ → FormatNo → Type 0
CountsNo before after Options = after ≡ before
CountsNo before after Device = Rose before after
CountsNo before after Memory = after ≡ before
