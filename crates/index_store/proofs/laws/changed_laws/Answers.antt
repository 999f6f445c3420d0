use Rattle.attr_store.proofs.ChangedStream.{clusters-kept}
use Rattle.attr_store.proofs.HeldKept.{held-kept}
use Rattle.index_store.proofs.laws.changed_laws.Goals as goal

pub returns-clause-held : goal.returns-clause-held
returns-clause-held c old new f kind name file owners plain changes = held-kept old new f kind name owners changes plain file

pub returns-clause-others : goal.returns-clause-others
returns-clause-others c = clusters-kept
