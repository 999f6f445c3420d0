use Rattle.std.proofs.Common.{arith}
use Rattle.std.proofs.lemmas.Int.{ints}
use Rattle.data_runs.proofs.NumberLaws.{shortest_number, shortest_negative}
use Rattle.data_runs.proofs.encode.number_len.Goals as goal

pub returns-then-number-lt0-clause-shortest : goal.returns-then-number-lt0-clause-shortest
returns-then-number-lt0-clause-shortest c =
    shortest_negative c.args.number c.fewest_bytes.result _ c.fewest_bytes.ensures.few (omega (arith, ints)) c.fewest_bytes.ensures.fewest

pub returns-clause-shortest : goal.returns-clause-shortest
returns-clause-shortest c =
    shortest_number c.args.number c.fewest_bytes-2.result _ (omega (arith, ints)) c.fewest_bytes-2.ensures.fewest
