use Rattle.cmd_lang.specs.Output.{output}
use Rattle.cmd_lang.specs.Printed.{step_text}
use Rattle.cmd_lang.proofs.OutputLaws.{Onto}
use Rattle.cmd_lang.proofs.pieces.put_steps.Given as goal

abbrev pub invariant-names : goal.invariant-names
invariant-names g l =
    Onto step_text l.names l.name-index (output g.K.Sink l.fn.out l.fn.held.items) (output g.K.Sink l.out l.held.items)
