use Rattle.command_edits.proofs.MadeAndLinked as laws
use Rattle.command_edits.proofs.commands.names_given.Goals as goal

pub returns : goal.returns
returns c = record { create = laws.create; mkdir = laws.mkdir; ln = laws.ln }
