use Rattle.record_edits.proofs.FillLaws as laws
use Rattle.record_edits.proofs.runs.extent_changed.Goals as goal

pub returns : goal.returns
returns c = record { filled = laws.times-filled; emptied = laws.times-emptied; cut = laws.times-cut }
