use Rattle.record_edits.proofs.CostLaws as laws
use Rattle.record_edits.proofs.costs.edit_costs.Goals as goal

pub returns : goal.returns
returns c = record { put = laws.costs-put; add = laws.costs-add; drop = laws.costs-drop }
