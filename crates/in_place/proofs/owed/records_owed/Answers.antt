use Rattle.in_place.proofs.UnusedSame as laws
use Rattle.in_place.proofs.owed.records_owed.Goals as goal

pub returns : goal.returns
returns c = record { blocks = laws.blocks-kept; unused = laws.unused-kept; copies = laws.copies-kept }
