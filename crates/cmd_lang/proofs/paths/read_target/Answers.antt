use Rattle.std.proofs.Common.{◌∷◌, sym, subst, ap, ◌∙◌}
use Rattle.std.specs.Prelude.{IfOk}
use Rattle.cmd_lang.specs.Cuts.{rest_of}
use Rattle.cmd_lang.specs.Targets.{FindsTarget}
use Rattle.cmd_lang.specs.Words.{IsTargetOf}
use Rattle.cmd_lang.proofs.PathLaws.{not_target}
use Rattle.cmd_lang.proofs.PieceLaws.{some_piece}
use Rattle.cmd_lang.proofs.paths.read_target.Goals as goal

pub returns-in-None : goal.returns-in-None
returns-in-None c =
    let parts = c.cut-parted.ensures.pieces ∙ ap (λ o. c.cut-parted.result.first.now ∷ rest_of 58 o) c.in-None.is in
    subst (λ parts. IfOk c.read_unnamed_stream.result (FindsTarget parts)) (sym parts) c.read_unnamed_stream.ensures

pub returns-in-Some-only : goal.returns-in-Some-only
returns-in-Some-only c =
    let parts = c.cut-parted.ensures.pieces ∙ ap (λ more. c.cut-parted.result.first.now ∷ more) c.in-Some-only.ensures in
    subst (λ parts. IfOk c.read_named_stream.result (FindsTarget parts)) (sym parts) c.read_named_stream.ensures

pub returns-in-None-only : goal.returns-in-None-only
returns-in-None-only c = λ path stream x.
    let more = rest_of 58 c.cut-parted.result.rest in
    not_target c.cut-parted.result.first.now more path stream
    (λ none. some_piece 58 c.in-Some.field-0.now (sym (ap (rest_of 58) c.in-Some.is) ∙ none))
    c.in-None-only.ensures
    (subst (λ parts. IsTargetOf parts path stream) c.cut-parted.ensures.pieces x)
