use Rattle.index_puts.proofs.PutVolume.{beside, can-now, kept, owners-now, readable-now, same-fold, same-records}
use Rattle.index_takes.proofs.TakeVolume.{as-put, like}
use Rattle.index_takes.proofs.laws.take_clauses.Goals as goal

pub returns-clause-records : goal.returns-clause-records
returns-clause-records c old new dir key takes owners =
    same-records old new dir (like old new dir key takes) (as-put old new dir key takes) owners

pub returns-clause-kept : goal.returns-clause-kept
returns-clause-kept c old new dir key takes owners = kept old new dir (like old new dir key takes) (as-put old new dir key takes) owners

pub returns-clause-case : goal.returns-clause-case
returns-clause-case c old new dir key takes owners =
    same-fold old new dir (like old new dir key takes) (as-put old new dir key takes) owners

pub returns-clause-beside : goal.returns-clause-beside
returns-clause-beside c old new dir key takes owners readable clause other holds =
    beside old new dir (like old new dir key takes) (as-put old new dir key takes) owners readable clause other holds

pub returns-clause-readable : goal.returns-clause-readable
returns-clause-readable c old new dir key takes owners readable =
    readable-now old new dir (like old new dir key takes) (as-put old new dir key takes) owners readable

pub returns-clause-owners : goal.returns-clause-owners
returns-clause-owners c old new dir key takes owners =
    owners-now old new dir (like old new dir key takes) (as-put old new dir key takes) owners

pub returns-clause-can : goal.returns-clause-can
returns-clause-can c old new dir key takes can =
    can-now old new dir (like old new dir key takes) (as-put old new dir key takes) can.owners can.readable can.bases
