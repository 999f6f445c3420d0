use Rattle.index_takes.proofs.EntryStays.{leaf-stays, root-stays}
use Rattle.index_takes.proofs.laws.entry_laws.Goals as goal

pub returns-clause-leaf : goal.returns-clause-leaf
returns-clause-leaf c old new dir units same value size fold = leaf-stays old new dir units same value size fold

pub returns-clause-root : goal.returns-clause-root
returns-clause-root c old new dir units same fold = root-stays old new dir units same fold
