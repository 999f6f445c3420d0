use Rattle.cmd_lang.specs.Printed.{step_text}
use Rattle.cmd_lang.proofs.OutputLaws.{onto_more, onto_stop}
use Rattle.cmd_lang.proofs.pieces.put_steps.Goals as goal

pub returns-in_err-put_step : goal.returns-in_err-put_step
returns-in_err-put_step g c =
    onto_stop step_text c.args.names.now c.names.name-index c.name-item.result _ _ _ c.in_err-put_step.field-0.0 c.from_residual.result
    c.names-test.true
    c.name-item.is c.names.invariant c.from_residual.ensures.0 c.in_err-put_step.ensures

pub names-preserved : goal.names-preserved
names-preserved g c =
    onto_more step_text c.args.names.now c.names.name-index c.name-item.result _ _ _ _ c.names-test.true c.name-item.is c.names.invariant
    c.in_ok-put_step.ensures
