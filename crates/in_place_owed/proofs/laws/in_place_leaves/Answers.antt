use Rattle.in_place_owed.proofs.CallsOwed.{calls}
use Rattle.in_place_owed.proofs.Owes as laws
use Rattle.in_place_owed.proofs.laws.in_place_leaves.Goals as goal

pub returns : goal.returns
returns c = record { calls = calls; owes = laws.owes; leaves = laws.leaves }
