use Rattle.std.proofs.Common.{[]}
use Rattle.cmd_lang.proofs.OutputLaws.{prints_less}
use Rattle.cmd_lang.proofs.held.put.Goals as goal

pub returns-in_err-flush : goal.returns-in_err-flush
returns-in_err-flush g c = prints_less _ _ [] c.args.piece.now c.in_err-flush.field-0.0 c.from_residual.result c.from_residual.ensures.0
    c.in_err-flush.ensures.prints
