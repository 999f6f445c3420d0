use Rattle.stream_edits.proofs.EditedReading as laws
use Rattle.stream_edits.proofs.reading.streams_read.Goals as goal

pub returns : goal.returns
returns c = record { put = laws.read-put; made = laws.read-made; gone = laws.read-gone }
