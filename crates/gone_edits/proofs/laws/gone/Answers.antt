use Rattle.std.proofs.Common.{subst}
use Rattle.gone_edits.specs.Goes.{CanGo, GoesUnder}
use Rattle.gone_edits.specs.Gone.{IsGone}
use Rattle.gone_edits.proofs.SoundGone as laws
use Rattle.gone_edits.proofs.laws.gone.Goals as goal

pub returns : goal.returns
returns c = λ old new was now n dir file parent name can right u stored.
    subst (λ d. CanGo old n d file parent name → GoesUnder old new was now n d name → IsGone old new was now n d parent name) can.inside
    (λ can u. laws.gone old new was now n file parent name can right u stored) can u
