use Rattle.std.proofs.Common.{None, ◌∷◌, [], sym, subst, ap, ◌∙◌}
use Rattle.std.specs.Prelude.{IfOk}
use Rattle.cmd_lang.specs.Cuts.{rest_of}
use Rattle.cmd_lang.specs.Grammar.{AreWords, IsCommand}
use Rattle.cmd_lang.specs.Lines.{FindsIn, FindsSaid}
use Rattle.cmd_lang.proofs.LineLaws.{behind_session, without_session}
use Rattle.cmd_lang.proofs.PathLaws.{IfOk-follows}
use Rattle.cmd_lang.proofs.parse.parse_words.Goals as goal

pub returns-in_default : goal.returns-in_default
returns-in_default c =
    let words = c.cut-parted.ensures.pieces in
    let told = subst (λ words. IfOk c.parse_in_session.result (FindsIn 0 (IsCommand words))) words c.parse_in_session.ensures in
    subst (λ words. IfOk c.parse_in_session.result (FindsSaid (AreWords words))) (sym words)
    (IfOk-follows _ _ c.parse_in_session.result (λ found. without_session c.cut-parted.result.first.now _ found c.in_default.ensures) told)

pub returns-in-Some-rest : goal.returns-in-Some-rest
returns-in-Some-rest c =
    let words = c.cut-parted.ensures.pieces ∙ ap (λ o. c.cut-parted.result.first.now ∷ rest_of 32 o) c.in-Some-rest.is in
    subst (λ words. IfOk c.parse_in_session-in-Some-rest.result (FindsSaid (AreWords words))) (sym words)
    (IfOk-follows _ _ c.parse_in_session-in-Some-rest.result
    (λ found. behind_session c.cut-parted.result.first.now _ _ found c.in-Some.ensures)
    c.parse_in_session-in-Some-rest.ensures)

pub returns-in-None : goal.returns-in-None
returns-in-None c =
    let words = c.cut-parted.ensures.pieces ∙ ap (λ o. c.cut-parted.result.first.now ∷ rest_of 32 o) c.in-None.is in
    subst (λ words. FindsSaid (AreWords words) None) (sym words)
    (behind_session c.cut-parted.result.first.now [] c.in-Some.session None c.in-Some.ensures (λ command x. x))
