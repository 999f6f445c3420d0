use Rattle.record_edits.proofs.FillLaws as laws
use Rattle.record_edits.proofs.runs.runs_named.Goals as goal

pub returns : goal.returns
returns c = record { come = laws.names-came; go = laws.names-gone }
