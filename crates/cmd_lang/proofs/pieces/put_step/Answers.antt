use Rattle.std.proofs.Common.{[], ◌∷◌}
use Rattle.vol_bytes.specs.NameText.{name_text}
use Rattle.cmd_lang.proofs.OutputLaws.{prints_less, prints_more}
use Rattle.cmd_lang.proofs.pieces.put_step.Goals as goal

pub returns-in_err-put : goal.returns-in_err-put
returns-in_err-put g c = prints_less _ _ (0x2F ∷ []) (name_text c.args.name.now) c.in_err-put.field-0.0 c.from_residual.result
    c.from_residual.ensures.0 c.in_err-put.ensures

pub returns : goal.returns
returns g c = prints_more _ _ _ (0x2F ∷ []) (name_text c.args.name.now) _ c.put_name.result c.in_ok-put.ensures
    (rw c.as_slice.ensures at c.put_name.ensures)
