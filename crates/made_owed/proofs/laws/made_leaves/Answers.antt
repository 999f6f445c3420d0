use Rattle.made_owed.proofs.MadeCalls as calls
use Rattle.made_owed.proofs.MadeOwes as laws
use Rattle.made_owed.proofs.laws.made_leaves.Goals as goal

pub returns : goal.returns
returns c = record {
  calls = λ directory before next path dir units made mid staged s.
      calls.calls directory before next dir units made mid staged s path;
  owes = λ directory before next path dir units made mid staged s.
      laws.owes directory before next dir units made mid staged s path;
  leaves = λ directory before next path dir units made mid staged s.
      laws.leaves directory before next dir units made mid staged s path;
}
