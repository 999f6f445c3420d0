use Rattle.cmd_lang.specs.Output.{output}
use Rattle.cmd_lang.specs.Printed.{link_text}
use Rattle.cmd_lang.proofs.OutputLaws.{Onto}
use Rattle.cmd_lang.proofs.print.put_links.Given as goal

abbrev pub invariant-lines : goal.invariant-lines
invariant-lines g l =
    Onto link_text l.lines l.line-index (output g.K.Sink l.fn.out l.fn.held.items) (output g.K.Sink l.out l.held.items)
