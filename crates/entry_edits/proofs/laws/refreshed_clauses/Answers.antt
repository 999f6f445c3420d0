use Rattle.entry_edits.proofs.RefreshedIndexes.{can-refresh, clause-kept, indexes-kept}
use Rattle.entry_edits.proofs.RefreshedVolume as volume
use Rattle.entry_edits.proofs.laws.refreshed_clauses.Goals as goal

pub returns-clause-beside : goal.returns-clause-beside
returns-clause-beside c old new dir units told r can = volume.beside old new dir units told r can

pub returns-clause-indexes : goal.returns-clause-indexes
returns-clause-indexes c old new dir units told r can = indexes-kept old new dir units told r can

pub returns-clause-sound : goal.returns-clause-sound
returns-clause-sound c old new dir units told r can sound clause = clause-kept old new dir units told r can clause (sound clause)

pub returns-clause-can : goal.returns-clause-can
returns-clause-can c view dir sound table some apart = can-refresh view dir sound table some apart
