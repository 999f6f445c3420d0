use Rattle.tree_model.proofs.StepLaws as laws
use Rattle.tree_model.proofs.laws.one_reading.Goals as goal

pub returns : goal.returns
returns c = record { volume = laws.one_volume; tree = laws.one_reading }
