use Rattle.record_edits.proofs.FlushLaws as laws
use Rattle.record_edits.proofs.place.edited_flush.Goals as goal

pub returns : goal.returns
returns c = record { edited = laws.edited-flush; ready = laws.ready-flush; stored = laws.bits-stored }
