use Rattle.root_puts.proofs.RootLaws.{edited, forms-kept, keeps-holder, kinds-same, names-kept, owners-now, parts-same, ready-now}
use Rattle.root_puts.proofs.RootLaws.{root-kept, root-runs, same-fold, values-same, writes-record}
use Rattle.root_puts.proofs.laws.root_edited.Goals as goal

pub returns-clause-edited : goal.returns-clause-edited
returns-clause-edited c old new marks dir item all = edited old new marks dir item all

pub returns-clause-ready : goal.returns-clause-ready
returns-clause-ready c old new marks dir item all = ready-now old new marks dir item all

pub returns-clause-owners : goal.returns-clause-owners
returns-clause-owners c old new marks dir item all = owners-now old new marks dir item all

pub returns-clause-writes : goal.returns-clause-writes
returns-clause-writes c old new marks dir item all = writes-record old new marks dir item all

pub returns-clause-parts : goal.returns-clause-parts
returns-clause-parts c old new marks dir item all f kind name free = parts-same old new marks dir item all f kind name free

pub returns-clause-values : goal.returns-clause-values
returns-clause-values c old new marks dir item all f kind name other free = values-same old new marks dir item all f kind name other free

pub returns-clause-kinds : goal.returns-clause-kinds
returns-clause-kinds c old new marks dir item all f test out = kinds-same old new marks dir item all f test out

pub returns-clause-runs : goal.returns-clause-runs
returns-clause-runs c old new marks dir item all p among = root-runs old new marks dir item all p among

pub returns-clause-holder : goal.returns-clause-holder
returns-clause-holder c old new marks dir item all = keeps-holder old new marks dir item all

pub returns-clause-names : goal.returns-clause-names
returns-clause-names c old new marks dir item all f = names-kept old new marks dir item all f

pub returns-clause-forms : goal.returns-clause-forms
returns-clause-forms c old new marks dir item all f = forms-kept old new marks dir item all f

pub returns-clause-case : goal.returns-clause-case
returns-clause-case c old new marks dir item all = same-fold old new marks dir item all

pub returns-clause-root : goal.returns-clause-root
returns-clause-root c old new marks dir item all was now was_is now_is = root-kept old new marks dir item all was now was_is now_is
