use Rattle.reading_edits.proofs.CallsRead as laws
use Rattle.reading_edits.proofs.laws.nodes_read.Goals as goal

pub returns : goal.returns
returns c = record { makes = laws.read-makes; gone = laws.read-gone; sets = laws.read-sets; stamped = laws.read-stamped }
