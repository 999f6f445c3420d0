use Rattle.name_edits.proofs.GoneNames as laws
use Rattle.name_edits.proofs.together.names_gone.Goals as goal

pub returns : goal.returns
returns c = record { drops = laws.gone-drops; one = laws.gone-one; some = laws.gone-some; all = laws.gone-all }
