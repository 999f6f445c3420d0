use Rattle.shell.proofs.OneLabel.{one-label}
use Rattle.shell.proofs.laws.one_label.Goals as goal

pub returns : goal.returns
returns c = one-label
