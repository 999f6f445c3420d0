use Rattle.stream_edits.proofs.MetEdits as laws
use Rattle.stream_edits.proofs.steps.met_edits.Goals as goal

pub returns : goal.returns
returns c = record { write = laws.write-met; punch = laws.punch-met; none = laws.Patches-none }
