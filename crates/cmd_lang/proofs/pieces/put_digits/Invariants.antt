use Rattle.std.proofs.Common.{Result, length}
use Rattle.vol_disk.specs.declared.Failed.{Failed}
use Rattle.hex.specs.Hex.{encode_lower}
use Rattle.cmd_lang.specs.Output.{Output, Prints, output}
use Rattle.cmd_lang.proofs.pieces.put_digits.Given as goal

abbrev pub invariant-chunks : goal.invariant-chunks
invariant-chunks g l = (after : Output) (r : Result (Unit {0}) Failed) → Prints (output g.K.Sink l.out l.held.items) after
    (encode_lower l.rest) r
    → Prints (output g.K.Sink l.fn.out l.fn.held.items) after (encode_lower l.bytes) r

abbrev pub decreases-chunks : goal.decreases-chunks
decreases-chunks g l = length l.rest
