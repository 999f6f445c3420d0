use Rattle.made_edits.proofs.MadeCalls as laws
use Rattle.made_edits.proofs.laws.made_calls.Goals as goal

pub returns : goal.returns
returns c = laws.made-calls
