use Rattle.std.proofs.Common.{subst}
use Rattle.cmd_lang.specs.Cuts.{rest_of}
use Rattle.cmd_lang.specs.Grammar.{AreRange}
use Rattle.cmd_lang.specs.Lines.{Finds}
use Rattle.cmd_lang.specs.declared.rows.TargetRange.{TargetRange}
use Rattle.cmd_lang.proofs.rows.read_read.Goals as goal

pub returns-in_default : goal.returns-in_default
returns-in_default c = λ meant x.
    let none = subst (Finds (λ (found : TargetRange). AreRange (rest_of 32 c.args.words) found.path found.stream found.at
    found.len)) c.in_default.is c.in_ok-range.ensures in
    none (record { path = x.0; stream = x.1; at = x.2; len = x.3 }) x.4
