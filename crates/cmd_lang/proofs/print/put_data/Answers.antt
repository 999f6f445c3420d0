use Rattle.std.proofs.Common.{[], ◌∷◌, ◌++◌}
use Rattle.std.specs.Prelude.{codes}
use Rattle.cmd_lang.specs.Printed.{bytes_text}
use Rattle.cmd_lang.proofs.OutputLaws.{prints_less, prints_more}
use Rattle.cmd_lang.proofs.print.put_data.Goals as goal

pub returns-in_err-put : goal.returns-in_err-put
returns-in_err-put g c = (prints_less _ _ (c.args.name.now) ((0x20 ∷ []) ++ (bytes_text c.args.bytes.now) ++
    (codes "\n")) c.in_err-put.field-0.0 c.from_residual.result c.from_residual.ensures.0 c.in_err-put.ensures)

pub returns-in_err-put-2 : goal.returns-in_err-put-2
returns-in_err-put-2 g c = (prints_more _ _ _ (c.args.name.now) ((0x20 ∷ []) ++ (bytes_text c.args.bytes.now) ++
    (codes "\n")) _ c.from_residual-in_err-put-2.result c.in_ok-put.ensures (prints_less _ _ (0x20 ∷ [])
    ((bytes_text c.args.bytes.now) ++ (codes "\n")) c.in_err-put-2.field-0.0 c.from_residual-in_err-put-2.result
    c.from_residual-in_err-put-2.ensures.0 c.in_err-put-2.ensures))

pub returns-in_err-put_bytes : goal.returns-in_err-put_bytes
returns-in_err-put_bytes g c = (prints_more _ _ _ (c.args.name.now) ((0x20 ∷ []) ++ (bytes_text c.args.bytes.now) ++
    (codes "\n")) _ c.from_residual-in_err-put_bytes.result c.in_ok-put.ensures (prints_more _ _ _ (0x20 ∷ [])
    ((bytes_text c.args.bytes.now) ++ (codes "\n")) _ c.from_residual-in_err-put_bytes.result c.in_ok-put-2.ensures (prints_less _ _
    (bytes_text c.args.bytes.now) ((codes "\n")) c.in_err-put_bytes.field-0.0 c.from_residual-in_err-put_bytes.result
    c.from_residual-in_err-put_bytes.ensures.0 c.in_err-put_bytes.ensures)))

pub returns : goal.returns
returns g c = (prints_more _ _ _ (c.args.name.now) ((0x20 ∷ []) ++ (bytes_text c.args.bytes.now) ++
    (codes "\n")) _ c.put-3.result c.in_ok-put.ensures (prints_more _ _ _ (0x20 ∷ []) ((bytes_text c.args.bytes.now) ++
    (codes "\n")) _ c.put-3.result c.in_ok-put-2.ensures (prints_more _ _ _ (bytes_text c.args.bytes.now)
    ((codes "\n")) _ c.put-3.result c.in_ok-put_bytes.ensures c.put-3.ensures)))
