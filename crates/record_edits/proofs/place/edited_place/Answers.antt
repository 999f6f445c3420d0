use Rattle.record_edits.proofs.PlaceCalls as laws
use Rattle.record_edits.proofs.place.edited_place.Goals as goal

pub returns : goal.returns
returns c = record { edited = laws.edited-place; ready = laws.ready-place; stream = laws.stream-place }
