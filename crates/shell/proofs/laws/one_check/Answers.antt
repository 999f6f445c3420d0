use Rattle.shell.proofs.Checks.{one-check}
use Rattle.shell.proofs.laws.one_check.Goals as goal

pub returns : goal.returns
returns c = one-check
