use Rattle.std.proofs.Common.{◌<◌, length, sym, arith}
use Rattle.std.proofs.lemmas.Bool.Decides.{nat_tests}
use Rattle.dir_index.proofs.SoughtUnits.{own_count}
use Rattle.dir_index.proofs.sought.unit_count.Goals as goal

pub returns-else-is_empty : goal.returns-else-is_empty
returns-else-is_empty c =
    let some : 0 < length c.args.key.now = grind (arith, nat_tests, c.if-is_empty.ensures) in
    sym (own_count c.args.name.now c.args.key.now some c.requires)
