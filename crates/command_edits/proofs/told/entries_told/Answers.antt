use Rattle.command_edits.proofs.LinksTold as laws
use Rattle.command_edits.proofs.told.entries_told.Goals as goal

pub returns : goal.returns
returns c = record { entry = laws.told-entry; entries = laws.told-entries }
