use Rattle.reading_edits.proofs.CallsRead as laws
use Rattle.reading_edits.proofs.laws.names_read.Goals as goal

pub returns : goal.returns
returns c = record { kept = laws.read-kept; adds = laws.read-adds; drops = laws.read-drops }
