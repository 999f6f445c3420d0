use Rattle.in_place_owed.proofs.ApartLaws.{shown-apart}
use Rattle.in_place_owed.proofs.EntryThere.{entry-there}
use Rattle.in_place_owed.proofs.LaterLaws as laws
use Rattle.in_place_owed.proofs.laws.in_place_premises.Goals as goal

pub returns : goal.returns
returns c = record { firsts = shown-apart; later = laws.later; named = entry-there }
