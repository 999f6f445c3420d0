use Rattle.command_edits.proofs.RemovedAndMoved as laws
use Rattle.command_edits.proofs.commands.names_taken.Goals as goal

pub returns : goal.returns
returns c = record { rm_last = laws.rm-last; rm_other = laws.rm-other; rmdir = laws.rmdir; mv = laws.mv }
