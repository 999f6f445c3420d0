use Rattle.cmd_lang.specs.Printed.{stream_text}
use Rattle.cmd_lang.proofs.OutputLaws.{onto_more, onto_stop}
use Rattle.cmd_lang.proofs.print.put_streams.Goals as goal

pub returns-in_err-put_stream : goal.returns-in_err-put_stream
returns-in_err-put_stream g c =
    onto_stop stream_text c.args.lines.now c.lines.line-index c.line-item.result _ _ _ c.in_err-put_stream.field-0.0
    c.from_residual.result c.lines-test.true
    c.line-item.is c.lines.invariant c.from_residual.ensures.0 c.in_err-put_stream.ensures

pub lines-preserved : goal.lines-preserved
lines-preserved g c =
    onto_more stream_text c.args.lines.now c.lines.line-index c.line-item.result _ _ _ _ c.lines-test.true c.line-item.is
    c.lines.invariant c.in_ok-put_stream.ensures
