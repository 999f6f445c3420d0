use Rattle.root_puts.proofs.RootLaws.{current-still, entry, items-changed, other-items, same-depth}
use Rattle.root_puts.proofs.laws.root_items.Goals as goal

pub returns-clause-items : goal.returns-clause-items
returns-clause-items c old new dir item was puts has absent = items-changed old new dir item puts was has absent

pub returns-clause-others : goal.returns-clause-others
returns-clause-others c old new marks dir item all g ne = other-items old new marks dir item all g ne

pub returns-clause-current : goal.returns-clause-current
returns-clause-current c old new marks dir item all f key is = current-still old new marks dir item all f key is

pub returns-clause-depths : goal.returns-clause-depths
returns-clause-depths c old new marks dir item all index apart = same-depth old new marks dir item all index apart

pub returns-clause-entry : goal.returns-clause-entry
returns-clause-entry c old new marks dir item all absent = entry old new marks dir item all absent
