use Rattle.record_edits.proofs.RecordEdits as laws
use Rattle.record_edits.proofs.laws.edited_record.Goals as goal

pub returns : goal.returns
returns c = record { edited = laws.edited; ready = laws.ready }
