use Rattle.std.proofs.Common.{◌+◌}
use Rattle.cmd_lang.specs.Printed.{answer_text, made_text}
use Rattle.cmd_lang.proofs.OutputLaws.{prints_less, prints_more}
use Rattle.cmd_lang.proofs.print.put_made.Goals as goal

pub returns-in_err-put : goal.returns-in_err-put
returns-in_err-put g c = prints_less _ _ (made_text (c.args.oks + c.args.nos) c.args.oks c.args.nos) (answer_text c.args.answer.now)
    c.in_err-put.field-0.0 c.from_residual.result c.from_residual.ensures.0
    (rw (c.as_slice.ensures.value, c.made_line.ensures.text) at c.in_err-put.ensures)

pub returns : goal.returns
returns g c = prints_more _ _ _ (made_text (c.args.oks + c.args.nos) c.args.oks c.args.nos) (answer_text c.args.answer.now) _
    c.put_answer.result (rw (c.as_slice.ensures.value, c.made_line.ensures.text) at c.in_ok-put.ensures) c.put_answer.ensures
