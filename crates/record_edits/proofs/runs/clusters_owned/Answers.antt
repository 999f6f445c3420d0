use Rattle.record_edits.proofs.RunTimes as laws
use Rattle.record_edits.proofs.runs.clusters_owned.Goals as goal

pub returns : goal.returns
returns c = record { put = laws.size-put; cut = laws.size-cut }
