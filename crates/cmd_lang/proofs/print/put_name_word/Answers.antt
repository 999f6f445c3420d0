use Rattle.std.proofs.Common.{[], ◌∷◌, sym, ◌∙◌}
use Rattle.vol_bytes.specs.NameText.{name_text}
use Rattle.cmd_lang.proofs.OutputLaws.{prints_less, prints_more}
use Rattle.cmd_lang.proofs.TextLaws.{some_name}
use Rattle.cmd_lang.proofs.print.put_name_word.Goals as goal

pub returns-in_err-put : goal.returns-in_err-put
returns-in_err-put g c = rw (some_name c.args.units.now (sym c.is_empty.ensures ∙ c.if-is_empty.false))
    (prints_less _ _ (0x20 ∷ []) (name_text c.args.units.now) c.in_err-put.field-0.0 c.from_residual.result c.from_residual.ensures.0
    c.in_err-put.ensures)

pub returns : goal.returns
returns g c = rw (some_name c.args.units.now (sym c.is_empty.ensures ∙ c.if-is_empty.false))
    (prints_more _ _ _ (0x20 ∷ []) (name_text c.args.units.now) _ c.put_name.result c.in_ok-put.ensures c.put_name.ensures)
