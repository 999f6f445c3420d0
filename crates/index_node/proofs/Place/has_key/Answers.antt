use Rattle.std.proofs.Common.{arith}
use Rattle.std.proofs.lemmas.Bool.Decides.{nat_tests}
use Rattle.index_node.proofs.PlaceLaws.{count_is}
use Rattle.index_node.proofs.Place.has_key.Goals as goal

pub returns-clause-inside : goal.returns-clause-inside
returns-clause-inside c e = let all = count_is c.args.self.now in grind (arith, nat_tests, e, all)

pub returns-clause-last : goal.returns-clause-last
returns-clause-last c e =
    let all = count_is c.args.self.now in
    let within = c.args.self.now.within in
    grind (arith, nat_tests, e, all, within)
