use Rattle.edit_def.proofs.CurrentLaws as current
use Rattle.edit_def.proofs.NodeLaws as nodes
use Rattle.edit_def.proofs.ToldLaws as told
use Rattle.edit_def.proofs.laws.kept_files.Goals as goal

pub returns : goal.returns
returns c = record {
  value = told.value-kept;
  node = nodes.node-kept;
  entry = current.current-kept;
}
