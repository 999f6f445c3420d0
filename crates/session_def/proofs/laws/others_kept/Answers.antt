use Rattle.session_def.proofs.HiddenLaws as laws
use Rattle.session_def.proofs.laws.others_kept.Goals as goal

pub returns : goal.returns
returns c = laws.hidden-kept
