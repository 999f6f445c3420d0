use Rattle.record_edits.proofs.FillLaws as laws
use Rattle.record_edits.proofs.runs.bits_followed.Goals as goal

pub returns : goal.returns
returns c = record { come = laws.follows-came; go = laws.follows-gone }
