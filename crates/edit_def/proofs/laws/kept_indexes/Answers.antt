use Rattle.edit_def.proofs.IndexLaws as laws
use Rattle.edit_def.proofs.laws.kept_indexes.Goals as goal

pub returns : goal.returns
returns c = record { fold = laws.fold-kept; items = laws.items-kept }
