use Rattle.index_puts.proofs.PutVolume.{current-still, items-changed, other-items, same-depth}
use Rattle.index_puts.proofs.laws.put_items.Goals as goal

pub returns-clause-items : goal.returns-clause-items
returns-clause-items c old new dir item was puts has absent = items-changed old new dir item puts was has absent

pub returns-clause-others : goal.returns-clause-others
returns-clause-others c old new dir item puts can g ne = other-items old new dir item puts can.owners can.readable can.bases g ne

pub returns-clause-current : goal.returns-clause-current
returns-clause-current c old new dir item puts owners f key is = current-still old new dir item puts owners f key is

pub returns-clause-depths : goal.returns-clause-depths
returns-clause-depths c old new dir item puts owners index apart = same-depth old new dir item puts owners index apart
