use Rattle.std.proofs.Common.{◌+◌, ◌++◌}
use Rattle.cmd_lang.specs.Printed.{answer_text, made_text}
use Rattle.list_laws.proofs.OptionLaws.{on_err}
use Rattle.cmd_lang.proofs.OutputLaws.{prints_flushed, prints_part}
use Rattle.cmd_lang.proofs.print.print_made.Goals as goal

pub returns-in_err-put_made-clause-part : goal.returns-in_err-put_made-clause-part
returns-in_err-put_made-clause-part g c = on_err c.from_residual.result (prints_part _ _
    (made_text (c.args.oks + c.args.nos) c.args.oks c.args.nos ++ answer_text c.args.answer.now) _ c.new-held.ensures
    c.in_err-put_made.ensures)

pub returns-clause-part : goal.returns-clause-part
returns-clause-part g c = on_err c.flush.result
    (prints_part _ _ (made_text (c.args.oks + c.args.nos) c.args.oks c.args.nos ++ answer_text c.args.answer.now) _ c.new-held.ensures
    (prints_flushed _ _ _ (made_text (c.args.oks + c.args.nos) c.args.oks c.args.nos ++ answer_text c.args.answer.now) _ c.flush.result
    c.in_ok-put_made.ensures c.flush.ensures.prints))
