use Rattle.volume_def.proofs.OneTable.{layout-exact}
use Rattle.volume_def.proofs.laws.one_table.Goals as goal

pub returns : goal.returns
returns c = layout-exact
