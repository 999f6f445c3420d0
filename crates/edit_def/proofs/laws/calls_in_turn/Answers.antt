use Rattle.edit_def.proofs.EditedLaws as laws
use Rattle.edit_def.proofs.laws.calls_in_turn.Goals as goal

pub returns : goal.returns
returns c = laws.Edited-then
