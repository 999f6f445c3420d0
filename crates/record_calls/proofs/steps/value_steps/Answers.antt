use Rattle.record_calls.proofs.StepCalls as laws
use Rattle.record_calls.proofs.steps.value_steps.Goals as goal

pub returns : goal.returns
returns c = record {
  comes = laws.step-comes;
  goes = laws.step-goes;
  replaced = laws.step-replaced;
  resized = laws.step-resized;
}
