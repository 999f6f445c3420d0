use Rattle.std.proofs.Common.{◌+◌, arith}
use Rattle.std.proofs.lemmas.List.{take_rest}
use Rattle.cmd_lang.proofs.PieceLaws.{whole, first}
use Rattle.cmd_lang.proofs.words.cut.Goals as goal

pub returns-in-None-clause-pieces : goal.returns-in-None-clause-pieces
returns-in-None-clause-pieces c = whole c.args.separator c.args.text.now (λ k h t. c.in-None.ensures k (omega arith) h t)

pub returns-in-Some-clause-pieces : goal.returns-in-Some-clause-pieces
returns-in-Some-clause-pieces c =
    let f = c.in-Some.ensures in
    rw (take_rest c.args.text.now (c.in-Some.at + 1)) (first c.args.separator c.args.text.now c.in-Some.at f.0.high
    (λ k h t. f.0.before k (omega arith) h t) f.1)
