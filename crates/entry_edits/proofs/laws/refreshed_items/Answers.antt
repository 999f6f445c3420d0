use Rattle.entry_edits.proofs.RefreshedIndexes.{items-changed, other-items}
use Rattle.entry_edits.proofs.RefreshedReading.{read-same}
use Rattle.entry_edits.proofs.RefreshedVolume as volume
use Rattle.entry_edits.proofs.laws.refreshed_items.Goals as goal

pub returns-clause-items : goal.returns-clause-items
returns-clause-items c old new dir units told r can = items-changed old new dir units told r can

pub returns-clause-others : goal.returns-clause-others
returns-clause-others c old new dir units told r can = other-items old new dir units told r can

pub returns-clause-kept : goal.returns-clause-kept
returns-clause-kept c old new dir units told r can = volume.kept old new dir units told r can

pub returns-clause-read : goal.returns-clause-read
returns-clause-read c old new dir units told r can = read-same old new dir units told r can
