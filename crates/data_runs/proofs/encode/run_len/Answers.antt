use Rattle.std.proofs.Common.{arith, length-append}
use Rattle.std.proofs.lemmas.Int.{ints}
use Rattle.data_runs.proofs.NumberLaws.{length-shortest}
use Rattle.data_runs.proofs.encode.run_len.Goals as goal

pub returns-clause-exact : goal.returns-clause-exact
returns-clause-exact c = λ text is.
    let len = length-shortest c.number_len.result _ _ _ is.len (omega (arith, ints)) c.number_len.ensures.shortest is.spells_len in
    let offset = c.offset_len.ensures.exact is.offset is.spells_offset in
    rw is.all (omega (arith, len, offset, length-append is.len is.offset))
