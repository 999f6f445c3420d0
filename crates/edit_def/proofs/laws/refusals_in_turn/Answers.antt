use Rattle.edit_def.proofs.AccountLaws as laws
use Rattle.edit_def.proofs.laws.refusals_in_turn.Goals as goal

pub returns : goal.returns
returns c = record { room = laws.LacksRoom-then; parts = laws.LacksParts-then }
