use Rattle.entry_edits.proofs.RefreshedKeys.{current-now, current-stays, rest-kept}
use Rattle.entry_edits.proofs.laws.refreshed_keys.Goals as goal

pub returns-clause-current : goal.returns-clause-current
returns-clause-current c old new dir units told r can f is = current-now old new dir units told r can f is

pub returns-clause-stays : goal.returns-clause-stays
returns-clause-stays c old new dir units told r can f key is = current-stays old new dir units told r can f key is

pub returns-clause-rests : goal.returns-clause-rests
returns-clause-rests c old new dir units told r shown f = rest-kept new f told r.was.key r.now.key r.refreshes.key shown
