use Rattle.command_edits.proofs.FreshNumber as laws
use Rattle.command_edits.proofs.allowed.number_fresh.Goals as goal

pub returns : goal.returns
returns c = laws.fresh-number
