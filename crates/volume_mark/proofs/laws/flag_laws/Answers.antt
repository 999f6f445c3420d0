use Rattle.volume_mark.proofs.LiesLaws.{flag-copied, flag-lies}
use Rattle.volume_mark.proofs.MarkLaws.{flag-tells}
use Rattle.volume_mark.proofs.laws.flag_laws.Goals as goal

pub returns : goal.returns
returns c = record { tells = flag-tells; lies = flag-lies; copied = flag-copied }
