use Rattle.std.proofs.Common.{subst}
use Rattle.record_calls.specs.Marks.{marks_of}
use Rattle.gone_edits.specs.Goes.{CanGo, GoesUnder}
use Rattle.gone_edits.specs.Gone.{IsGoneByCalls}
use Rattle.gone_edits.proofs.GoneCalls as laws
use Rattle.gone_edits.proofs.laws.gone_calls.Goals as goal

pub returns : goal.returns
returns c = λ old new was now n dir file parent name can right u.
    subst (λ d. CanGo old n d file parent name → GoesUnder old new was now n d name
    → IsGoneByCalls old new (marks_of was) (marks_of now) n d name) can.inside
    (λ can u. laws.gone-calls old new was now n file parent name can right u) can u
