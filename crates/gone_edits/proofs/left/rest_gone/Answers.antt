use Rattle.std.proofs.Common.{subst}
use Rattle.gone_edits.specs.Beside.{KeepsRest}
use Rattle.gone_edits.specs.Goes.{CanGo, GoesUnder}
use Rattle.gone_edits.proofs.RestGone as laws
use Rattle.gone_edits.proofs.left.rest_gone.Goals as goal

pub returns : goal.returns
returns c = λ old new was now n dir file parent name can right u.
    subst (λ d. CanGo old n d file parent name → GoesUnder old new was now n d name → KeepsRest old new n d name) can.inside
    (λ can u. laws.keeps-rest old new was now n file parent name can right u) can u
