use Rattle.std.proofs.Common.{sym, arith}
use Rattle.edge.proofs.LineLaws.{line-ended, line-open}
use Rattle.edge.proofs.noted.split_line.Goals as goal

pub returns-in-Some-clause-part : goal.returns-in-Some-clause-part
returns-in-Some-clause-part c =
    sym (line-ended c.args.text.now c.in-Some.len c.in-Some.ensures.0.high (λ k low is. c.in-Some.ensures.0.before k (omega arith) low is)
    c.in-Some.ensures.1)

pub returns-in-None-clause-part : goal.returns-in-None-clause-part
returns-in-None-clause-part c = sym (line-open c.args.text.now (λ k lies is. c.in-None.ensures k (omega arith) lies is))
