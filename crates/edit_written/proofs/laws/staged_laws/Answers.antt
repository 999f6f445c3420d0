use Rattle.edit_written.proofs.BootStays.{staged-volume}
use Rattle.edit_written.proofs.FlagStays.{staged-flag}
use Rattle.edit_written.proofs.laws.staged_laws.Goals as goal

pub returns : goal.returns
returns c = record { volume = staged-volume; flag = staged-flag }
