use Rattle.std.proofs.Common.{◌∷◌, ap, sym, ◌∙◌}
use Rattle.cmd_lang.specs.Cuts.{rest_of}
use Rattle.cmd_lang.proofs.PieceLaws.{not_one}
use Rattle.cmd_lang.proofs.words.only.Goals as goal

pub returns-in-Some : goal.returns-in-Some
returns-in-Some c = λ a h.
    not_one c.args.separator c.in_ok-text.field-0.now c.in-Some.field-0.now c.cut-first.result.first.now a
    (c.cut-first.ensures.pieces ∙ ap (λ o. c.cut-first.result.first.now ∷ rest_of c.args.separator o) c.in-Some.is)
    (sym (ap (rest_of c.args.separator) c.in_ok-text.was) ∙ h)
