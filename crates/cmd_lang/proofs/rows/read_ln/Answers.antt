use Rattle.std.proofs.Common.{subst}
use Rattle.cmd_lang.specs.Cuts.{rest_of}
use Rattle.cmd_lang.specs.Grammar.{Two}
use Rattle.cmd_lang.specs.Lines.{Finds}
use Rattle.cmd_lang.specs.Words.{IsPath}
use Rattle.cmd_lang.proofs.rows.read_ln.Goals as goal

pub returns-in-None : goal.returns-in-None
returns-in-None c = λ meant x.
    let none = subst (Finds (λ found. Two (rest_of 32 c.args.words) (λ a b. IsPath a found.0
    × IsPath b found.1))) c.in-None.is c.in_ok-old.ensures in
    none (x.0, x.1) x.2
