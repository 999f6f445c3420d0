use Rattle.std.proofs.Common.{Err, Ok, sym, ◌∙◌}
use Rattle.plain_tree.specs.Plain.{is_plain, machine_of}
use Rattle.tree_model.specs.Staging.{is_built}
use Rattle.tree_model.proofs.MachineLaws.{unbuilt-step}
use Rattle.plain_tree.proofs.PlainLaws.{answered-step, not-built}
use Rattle.plain_tree.proofs.machine.PlainMachine.step.Goals as goal

pub returns-clause-step : goal.returns-clause-step
returns-clause-step c all told =
    unbuilt-step all (machine_of c.args.self.now) c.args.session c.args.command.now
    (not-built (is_built c.args.command.now) (is_plain c.args.command.now) (sym c.is_plain.ensures ∙ c.if-is_plain.false)
    (sym c.is_left_out.ensures ∙ c.if-is_left_out.false))

pub returns-in-Ok-clause-step : goal.returns-in-Ok-clause-step
returns-in-Ok-clause-step c all told =
    answered-step c.args.self.now c.as_slice-opens.result.now c.args.facts.now all c.args.session c.args.command.now (Ok c.in-Ok.answer)
    c.as_slice-opens.ensures.value (sym c.is_plain.ensures ∙ c.if-is_plain.true) c.in-Ok.ensures told

pub returns-in-Err-clause-step : goal.returns-in-Err-clause-step
returns-in-Err-clause-step c all told =
    answered-step c.args.self.now c.as_slice-opens.result.now c.args.facts.now all c.args.session c.args.command.now (Err c.in-Err.refused)
    c.as_slice-opens.ensures.value (sym c.is_plain.ensures ∙ c.if-is_plain.true) c.in-Err.ensures told
