use Rattle.root_puts.proofs.RootLaws.{beside}
use Rattle.root_puts.proofs.laws.root_clauses.Goals as goal

pub returns : goal.returns
returns c old new marks dir item all clause other refers holds = beside old new marks dir item all clause other refers holds
