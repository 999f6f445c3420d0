use Rattle.command_edits.proofs.AllowedCommands as laws
use Rattle.command_edits.proofs.allowed.commands_allowed.Goals as goal

pub returns : goal.returns
returns c = record { all = laws.allowed; rmdir = laws.rmdir-empty; mv = laws.mv-no_loop }
