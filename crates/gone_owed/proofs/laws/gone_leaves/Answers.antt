use Rattle.std.proofs.Common.{subst}
use Rattle.tree_model.specs.declared.command.Command.TheVariants as c
use Rattle.session_def.specs.Done.{LeavesDone}
use Rattle.session_def.specs.Owed.{CallsOf, Owes}
use Rattle.gone_owed.specs.GoneOwed.{SetsBehindGone, at_gone}
use Rattle.gone_owed.proofs.GoneCalls as calls
use Rattle.gone_owed.proofs.GoneOwes as laws
use Rattle.gone_owed.proofs.laws.gone_leaves.Goals as goal

pub returns : goal.returns
returns x = record {
  calls = λ before next path n dir made file parent name mid staged s.
      subst (λ d. SetsBehindGone before next n d file parent name mid staged
      → CallsOf before next (c.Rm path) (at_gone before.machine.tree n name) made) s.can.inside
      (λ s. calls.calls before next n file parent name mid staged s path made) s;
  owes = λ before next path n dir made file parent name mid staged s.
      subst (λ d. SetsBehindGone before next n d file parent name mid staged
      → Owes before next (c.Rm path) (at_gone before.machine.tree n name) made) s.can.inside
      (λ s. laws.owes before next n file parent name mid staged s path made) s;
  leaves = λ before next path n dir made file parent name mid staged s.
      subst (λ d. SetsBehindGone before next n d file parent name mid staged
      → LeavesDone before next (c.Rm path) (at_gone before.machine.tree n name) made) s.can.inside
      (λ s. laws.leaves before next n file parent name mid staged s path made) s;
}
