use Rattle.std.proofs.Common.{arith, subst}
use Rattle.cmd_lang.specs.Grammar.{AreWords}
use Rattle.cmd_lang.specs.Lines.{FindsSaid}
use Rattle.cmd_lang.specs.Words.{pieces}
use Rattle.cmd_lang.proofs.parse.parse_line.Goals as goal

pub returns-in-None : goal.returns-in-None
returns-in-None c =
    let none = subst (FindsSaid (AreWords (pieces 32 c.args.line.now))) c.in-None.is c.in_ok-said.ensures in
    (omega (arith, c.if-line-gt-MOST_BYTES.false), λ session command x. none session command x.words)
