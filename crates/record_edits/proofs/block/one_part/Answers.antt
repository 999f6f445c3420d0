use Rattle.record_edits.proofs.WholeEdits as laws
use Rattle.record_edits.proofs.block.one_part.Goals as goal

pub returns : goal.returns
returns c = record { value = laws.one-value; extent = laws.one-extent }
