use Rattle.mark_place.proofs.EmptyLaws.{emptied-log, outside-log}
use Rattle.mark_place.proofs.LogEnd.{log-end}
use Rattle.mark_place.proofs.laws.log_laws.Goals as goal

pub returns-clause-outside : goal.returns-clause-outside
returns-clause-outside c = outside-log

pub returns-clause-emptied : goal.returns-clause-emptied
returns-clause-emptied c = emptied-log

pub returns-clause-end : goal.returns-clause-end
returns-clause-end c = log-end
