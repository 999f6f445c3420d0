use Rattle.stream_edits.proofs.EditedStreams as laws
use Rattle.stream_edits.proofs.reading.stream_call.Goals as goal

pub returns : goal.returns
returns c = record { edits = laws.edited-stream; unseen = laws.unseen-but-streams }
