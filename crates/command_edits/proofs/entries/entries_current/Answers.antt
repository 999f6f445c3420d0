use Rattle.command_edits.proofs.CurrentEntries as laws
use Rattle.command_edits.proofs.entries.entries_current.Goals as goal

pub returns : goal.returns
returns c = laws.refreshed-current
