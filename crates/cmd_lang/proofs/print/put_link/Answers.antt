use Rattle.std.proofs.Common.{[], ◌∷◌, ◌++◌}
use Rattle.std.specs.Prelude.{codes, decimal}
use Rattle.cmd_lang.specs.Printed.{and_word, path_word}
use Rattle.cmd_lang.proofs.OutputLaws.{prints_less, prints_more}
use Rattle.cmd_lang.proofs.print.put_link.Goals as goal

pub returns-in_err-put : goal.returns-in_err-put
returns-in_err-put g c = (prints_less _ _ (codes "link" ++ and_word (decimal c.args.link.now.space)) ((0x20 ∷ []) ++
    (path_word c.args.link.now.path) ++ (codes "\n")) c.in_err-put.field-0.0 c.from_residual.result c.from_residual.ensures.0 (rw
    (c.as_slice.ensures.value, c.number_front.ensures.text, c.from.ensures) at c.in_err-put.ensures))

pub returns-in_err-put-2 : goal.returns-in_err-put-2
returns-in_err-put-2 g c = (prints_more _ _ _ (codes "link" ++ and_word (decimal c.args.link.now.space)) ((0x20 ∷ []) ++
    (path_word c.args.link.now.path) ++ (codes "\n")) _ c.from_residual-in_err-put-2.result (rw
    (c.as_slice.ensures.value, c.number_front.ensures.text, c.from.ensures) at c.in_ok-put.ensures) (prints_less _ _ (0x20 ∷ [])
    ((path_word c.args.link.now.path) ++ (codes "\n")) c.in_err-put-2.field-0.0 c.from_residual-in_err-put-2.result
    c.from_residual-in_err-put-2.ensures.0 c.in_err-put-2.ensures))

pub returns-in_err-put_path : goal.returns-in_err-put_path
returns-in_err-put_path g c = (prints_more _ _ _ (codes "link" ++ and_word (decimal c.args.link.now.space)) ((0x20 ∷ []) ++
    (path_word c.args.link.now.path) ++ (codes "\n")) _ c.from_residual-in_err-put_path.result (rw
    (c.as_slice.ensures.value, c.number_front.ensures.text, c.from.ensures) at c.in_ok-put.ensures) (prints_more _ _ _ (0x20 ∷ [])
    ((path_word c.args.link.now.path) ++ (codes "\n")) _ c.from_residual-in_err-put_path.result c.in_ok-put-2.ensures (prints_less _ _
    (path_word c.args.link.now.path) ((codes "\n")) c.in_err-put_path.field-0.0 c.from_residual-in_err-put_path.result
    c.from_residual-in_err-put_path.ensures.0 (rw c.as_slice-2.ensures at c.in_err-put_path.ensures))))

pub returns : goal.returns
returns g c = (prints_more _ _ _ (codes "link" ++ and_word (decimal c.args.link.now.space)) ((0x20 ∷ []) ++
    (path_word c.args.link.now.path) ++ (codes "\n")) _ c.put-3.result (rw
    (c.as_slice.ensures.value, c.number_front.ensures.text, c.from.ensures) at c.in_ok-put.ensures) (prints_more _ _ _ (0x20 ∷ [])
    ((path_word c.args.link.now.path) ++ (codes "\n")) _ c.put-3.result c.in_ok-put-2.ensures (prints_more _ _ _
    (path_word c.args.link.now.path) ((codes "\n")) _ c.put-3.result
    (rw c.as_slice-2.ensures at c.in_ok-put_path.ensures) c.put-3.ensures)))
