use Rattle.volume_edits.proofs.QuietClauses.{beside-kept}
use Rattle.volume_edits.proofs.laws.root_law.Goals as goal

pub returns : goal.returns
returns c view block copy n was now e clause other holds = beside-kept view block copy n was now e clause other holds
