use Rattle.cmd_lang.specs.Printed.{text_of}
use Rattle.list_laws.proofs.OptionLaws.{on_err}
use Rattle.cmd_lang.proofs.OutputLaws.{prints_flushed, prints_part}
use Rattle.cmd_lang.proofs.print.print_reply.Goals as goal

pub returns-in_err-put_reply-clause-part : goal.returns-in_err-put_reply-clause-part
returns-in_err-put_reply-clause-part g c = on_err c.from_residual.result (prints_part _ _
    (text_of c.args.reply.now) _ c.new-held.ensures c.in_err-put_reply.ensures)

pub returns-clause-part : goal.returns-clause-part
returns-clause-part g c = on_err c.flush.result
    (prints_part _ _ (text_of c.args.reply.now) _ c.new-held.ensures (prints_flushed _ _ _
    (text_of c.args.reply.now) _ c.flush.result c.in_ok-put_reply.ensures c.flush.ensures.prints))
