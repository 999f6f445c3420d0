use Rattle.std.specs.Prelude.{codes}
use Rattle.cmd_lang.specs.Printed.{answer_text}
use Rattle.cmd_lang.proofs.OutputLaws.{prints_less, prints_more, prints_none}
use Rattle.cmd_lang.proofs.print.put_reply.Goals as goal

pub returns-in_err-put_answer-in-Ok : goal.returns-in_err-put_answer-in-Ok
returns-in_err-put_answer-in-Ok g c = rw c.in-Ok.is (prints_less _ _ (answer_text c.in-Ok.answer)
    (codes "ok\n") c.in_err-put_answer-in-Ok.field-0.0
    c.from_residual.result c.from_residual.ensures.0 c.in_err-put_answer-in-Ok.ensures)

pub returns-in_ok-put_answer-in-Ok : goal.returns-in_ok-put_answer-in-Ok
returns-in_ok-put_answer-in-Ok g c = rw c.in-Ok.is (prints_more _ _ _ (answer_text c.in-Ok.answer)
    (codes "ok\n") _ c.put.result c.in_ok-put_answer-in-Ok.ensures c.put.ensures)

pub returns-in-No : goal.returns-in-No
returns-in-No g c = rw c.in-No.is (rw (c.as_slice.ensures.value, c.refusal_line.ensures.text) at c.put-in-No.ensures)

pub returns-in-Device : goal.returns-in-Device
returns-in-Device g c = rw c.in-Device.is (prints_none _)
