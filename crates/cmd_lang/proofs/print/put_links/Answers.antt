use Rattle.cmd_lang.specs.Printed.{link_text}
use Rattle.cmd_lang.proofs.OutputLaws.{onto_more, onto_stop}
use Rattle.cmd_lang.proofs.print.put_links.Goals as goal

pub returns-in_err-put_link : goal.returns-in_err-put_link
returns-in_err-put_link g c =
    onto_stop link_text c.args.lines.now c.lines.line-index c.line-item.result _ _ _ c.in_err-put_link.field-0.0 c.from_residual.result
    c.lines-test.true
    c.line-item.is c.lines.invariant c.from_residual.ensures.0 c.in_err-put_link.ensures

pub lines-preserved : goal.lines-preserved
lines-preserved g c =
    onto_more link_text c.args.lines.now c.lines.line-index c.line-item.result _ _ _ _ c.lines-test.true c.line-item.is c.lines.invariant
    c.in_ok-put_link.ensures
