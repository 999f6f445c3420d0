use Rattle.command_edits.proofs.LinksTold as laws
use Rattle.command_edits.proofs.told.dropped_values.Goals as goal

pub returns : goal.returns
returns c = laws.dropped-values
