use Rattle.cmd_lang.specs.Output.{output}
use Rattle.cmd_lang.specs.Printed.{stream_text}
use Rattle.cmd_lang.proofs.OutputLaws.{Onto}
use Rattle.cmd_lang.proofs.print.put_streams.Given as goal

abbrev pub invariant-lines : goal.invariant-lines
invariant-lines g l =
    Onto stream_text l.lines l.line-index (output g.K.Sink l.fn.out l.fn.held.items) (output g.K.Sink l.out l.held.items)
