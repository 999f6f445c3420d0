use Rattle.edit_def.proofs.EditedLaws as laws
use Rattle.edit_def.proofs.laws.low_clauses.Goals as goal

pub returns : goal.returns
returns c = laws.low-of
