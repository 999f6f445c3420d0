use Rattle.command_edits.proofs.MadeAndLinked as laws
use Rattle.command_edits.proofs.commands.files_set.Goals as goal

pub returns : goal.returns
returns c = record { setattr = laws.setattr; setsec = laws.setsec }
