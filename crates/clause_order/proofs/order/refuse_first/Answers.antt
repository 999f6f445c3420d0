use Rattle.std.proofs.Common.{None}
use Rattle.volume_def.specs.Sound.{Meets}
use Rattle.list_laws.specs.Least.{IsLeastFailing}
use Rattle.clause_order.specs.Clauses.{named}
use Rattle.clause_order.proofs.OrderLaws.{HoldBelow-more}
use Rattle.clause_order.proofs.order.refuse_first.Goals as goal

pub returns-in-None-clause-ok : goal.returns-in-None-clause-ok
returns-in-None-clause-ok c = λ view before first.
    let none : IsLeastFailing (Meets (named c.args.clause) view) None = rw c.in-None.is at first before in
    HoldBelow-more view (named c.args.clause) before none
