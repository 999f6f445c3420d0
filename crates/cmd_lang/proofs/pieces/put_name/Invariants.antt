use Rattle.std.proofs.Common.{Result, length}
use Rattle.vol_disk.specs.declared.Failed.{Failed}
use Rattle.vol_bytes.specs.NameText.{name_text}
use Rattle.cmd_lang.specs.Output.{Output, Prints, output}
use Rattle.cmd_lang.proofs.pieces.put_name.Given as goal

abbrev pub invariant-characters : goal.invariant-characters
invariant-characters g l = (after : Output) (r : Result (Unit {0}) Failed) → Prints (output g.K.Sink l.out l.held.items) after
    (name_text l.rest) r
    → Prints (output g.K.Sink l.fn.out l.fn.held.items) after (name_text l.units) r

abbrev pub decreases-characters : goal.decreases-characters
decreases-characters g l = length l.rest
