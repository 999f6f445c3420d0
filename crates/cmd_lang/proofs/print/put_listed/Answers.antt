use Rattle.std.proofs.Common.{[], ◌∷◌, ◌++◌}
use Rattle.std.specs.Prelude.{codes}
use Rattle.vol_bytes.specs.NameText.{name_text}
use Rattle.cmd_lang.specs.Printed.{kind_text}
use Rattle.cmd_lang.proofs.OutputLaws.{prints_less, prints_more}
use Rattle.cmd_lang.proofs.print.put_listed.Goals as goal

pub returns-in_err-put : goal.returns-in_err-put
returns-in_err-put g c = (prints_less _ _ (kind_text c.args.listed.now.dir) ((0x20 ∷ []) ++ (name_text c.args.listed.now.name) ++
    (codes "\n")) c.in_err-put.field-0.0 c.from_residual.result c.from_residual.ensures.0
    (rw c.kind_text.ensures.text at c.in_err-put.ensures))

pub returns-in_err-put-2 : goal.returns-in_err-put-2
returns-in_err-put-2 g c = (prints_more _ _ _ (kind_text c.args.listed.now.dir) ((0x20 ∷ []) ++ (name_text c.args.listed.now.name) ++
    (codes "\n")) _ c.from_residual-in_err-put-2.result (rw c.kind_text.ensures.text at c.in_ok-put.ensures) (prints_less _ _
    (0x20 ∷ []) ((name_text c.args.listed.now.name) ++ (codes "\n")) c.in_err-put-2.field-0.0 c.from_residual-in_err-put-2.result
    c.from_residual-in_err-put-2.ensures.0 c.in_err-put-2.ensures))

pub returns-in_err-put_name : goal.returns-in_err-put_name
returns-in_err-put_name g c = (prints_more _ _ _ (kind_text c.args.listed.now.dir) ((0x20 ∷ []) ++ (name_text c.args.listed.now.name) ++
    (codes "\n")) _ c.from_residual-in_err-put_name.result (rw c.kind_text.ensures.text at c.in_ok-put.ensures) (prints_more _ _ _
    (0x20 ∷ []) ((name_text c.args.listed.now.name) ++ (codes "\n")) _ c.from_residual-in_err-put_name.result c.in_ok-put-2.ensures
    (prints_less _ _ (name_text c.args.listed.now.name) ((codes "\n")) c.in_err-put_name.field-0.0 c.from_residual-in_err-put_name.result
    c.from_residual-in_err-put_name.ensures.0 (rw c.as_slice.ensures at c.in_err-put_name.ensures))))

pub returns : goal.returns
returns g c = (prints_more _ _ _ (kind_text c.args.listed.now.dir) ((0x20 ∷ []) ++ (name_text c.args.listed.now.name) ++
    (codes "\n")) _ c.put-3.result (rw c.kind_text.ensures.text at c.in_ok-put.ensures) (prints_more _ _ _ (0x20 ∷ [])
    ((name_text c.args.listed.now.name) ++ (codes "\n")) _ c.put-3.result c.in_ok-put-2.ensures (prints_more _ _ _
    (name_text c.args.listed.now.name) ((codes "\n")) _ c.put-3.result
    (rw c.as_slice.ensures at c.in_ok-put_name.ensures) c.put-3.ensures)))
