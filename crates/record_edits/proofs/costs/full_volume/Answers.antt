use Rattle.record_edits.proofs.FullLaws as laws
use Rattle.record_edits.proofs.costs.full_volume.Goals as goal

pub returns : goal.returns
returns c = laws.LacksRoom-full
