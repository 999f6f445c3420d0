use Rattle.std.proofs.Common.{subst}
use Rattle.gone_edits.specs.Goes.{CanGo, GoesUnder}
use Rattle.gone_edits.specs.Left.{LeavesRest}
use Rattle.gone_edits.proofs.LeftGone as laws
use Rattle.gone_edits.proofs.left.left_gone.Goals as goal

pub returns : goal.returns
returns c = λ old new was now n dir file parent name can right u.
    subst (λ d. CanGo old n d file parent name → GoesUnder old new was now n d name → LeavesRest old new n d) can.inside
    (λ can u. laws.leaves-rest old new was now n file parent name can right u) can u
