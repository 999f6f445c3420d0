use Rattle.session_def.proofs.ApartLaws as laws
use Rattle.session_def.proofs.laws.hidden_files.Goals as goal

pub returns : goal.returns
returns c = laws.hidden-keeps
