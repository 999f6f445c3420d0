use Rattle.session_def.proofs.OwedLaws as laws
use Rattle.session_def.proofs.laws.leaves_done.Goals as goal

pub returns : goal.returns
returns c = laws.leaves-done
