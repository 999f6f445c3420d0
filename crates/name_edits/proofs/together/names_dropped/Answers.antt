use Rattle.name_edits.proofs.OnceNames.{names-once}
use Rattle.name_edits.proofs.TreeNames as laws
use Rattle.name_edits.proofs.together.names_dropped.Goals as goal

pub returns : goal.returns
returns c = record { once = names-once; dropped = laws.shown-dropped; last = laws.shown-last; other = laws.shown-other }
