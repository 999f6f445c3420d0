use Rattle.in_place.proofs.IndexesOwed as laws
use Rattle.in_place.proofs.exact.indexes_owed.Goals as goal

pub returns : goal.returns
returns c = record { changed_index = laws.index-by; other_index = laws.index-other }
