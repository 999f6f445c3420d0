use Rattle.cmd_lang.proofs.OutputLaws.{prints_stopped}
use Rattle.cmd_lang.proofs.held.flush.Goals as goal

pub returns-in_err-write_all-clause-prints : goal.returns-in_err-write_all-clause-prints
returns-in_err-write_all-clause-prints g c =
    prints_stopped _ _ c.from_residual.result c.from_residual.ensures.0
    (rw c.as_slice.ensures.value at c.in_err-write_all.ensures.part) c.in_err-write_all.ensures.faults
