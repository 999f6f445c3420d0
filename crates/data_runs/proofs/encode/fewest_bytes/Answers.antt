use Rattle.std.proofs.Common.{◌≡◌, ◌-◌, arith}
use Rattle.std.proofs.lemmas.Nat.{leading_length}
use Rattle.std.specs.Int.Count.{count_leading_zeros}
use Rattle.data_runs.proofs.NumberLaws.{fewest-digits, digits_few}
use Rattle.data_runs.proofs.encode.fewest_bytes.Goals as goal

pub returns-clause-fewest : goal.returns-clause-fewest
returns-clause-fewest c =
    let (m, digits, below, above) = leading_length 64 c.args.number (omega arith) in
    let same : 64 - count_leading_zeros 64 c.args.number ≡ m = omega arith in
    rw same (fewest-digits c.args.number m below above)

pub returns-clause-few : goal.returns-clause-few
returns-clause-few c =
    let (m, digits, below, above) = leading_length 64 c.args.number (omega arith) in
    let few = digits_few c.args.number m c.requires above in
    omega arith
