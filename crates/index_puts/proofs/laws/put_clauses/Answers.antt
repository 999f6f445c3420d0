use Rattle.index_puts.proofs.PutVolume.{beside, can-now, kept, owners-now, readable-now, same-fold, same-records}
use Rattle.index_puts.proofs.laws.put_clauses.Goals as goal

pub returns-clause-records : goal.returns-clause-records
returns-clause-records c old new dir item puts owners = same-records old new dir item puts owners

pub returns-clause-kept : goal.returns-clause-kept
returns-clause-kept c old new dir item puts owners = kept old new dir item puts owners

pub returns-clause-case : goal.returns-clause-case
returns-clause-case c old new dir item puts owners = same-fold old new dir item puts owners

pub returns-clause-beside : goal.returns-clause-beside
returns-clause-beside c old new dir item puts owners readable clause other holds =
    beside old new dir item puts owners readable clause other holds

pub returns-clause-readable : goal.returns-clause-readable
returns-clause-readable c old new dir item puts owners readable = readable-now old new dir item puts owners readable

pub returns-clause-owners : goal.returns-clause-owners
returns-clause-owners c old new dir item puts owners = owners-now old new dir item puts owners

pub returns-clause-can : goal.returns-clause-can
returns-clause-can c old new dir item puts can = can-now old new dir item puts can.owners can.readable can.bases
