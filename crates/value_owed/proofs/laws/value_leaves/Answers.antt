use Rattle.value_owed.proofs.ValueCalls.{calls}
use Rattle.value_owed.proofs.ValueOwes as laws
use Rattle.value_owed.proofs.laws.value_leaves.Goals as goal

pub returns : goal.returns
returns c = record {
  calls = λ before next command at made mid staged s. calls before next command at mid staged s made;
  owes = λ before next command at made mid staged s. laws.owes before next command at mid staged s made;
  leaves = λ before next command at made mid staged s. laws.leaves before next command at mid staged s made;
}
