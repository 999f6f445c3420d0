use Rattle.record_edits.proofs.FileEdits as laws
use Rattle.record_edits.proofs.laws.edited_list.Goals as goal

pub returns : goal.returns
returns c = record { none = laws.list-missing; same = laws.list-same }
