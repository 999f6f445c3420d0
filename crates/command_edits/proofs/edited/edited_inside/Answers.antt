use Rattle.command_edits.proofs.CommandKeys as laws
use Rattle.command_edits.proofs.edited.edited_inside.Goals as goal

pub returns : goal.returns
returns c = laws.inside-changed
