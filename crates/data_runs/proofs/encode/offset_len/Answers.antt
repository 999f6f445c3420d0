use Rattle.std.proofs.Common.{arith}
use Rattle.std.proofs.lemmas.Int.{ints}
use Rattle.data_runs.proofs.NumberLaws.{length-shortest}
use Rattle.data_runs.proofs.encode.offset_len.Goals as goal

pub returns-in-Some-clause-exact : goal.returns-in-Some-clause-exact
returns-in-Some-clause-exact c =
    let place = c.requires.reach in
    rw c.in-Some.is (λ text is. length-shortest c.number_len.result _ _ _ text
    (omega (arith, ints, c.way_from.ensures)) c.number_len.ensures.shortest is)
