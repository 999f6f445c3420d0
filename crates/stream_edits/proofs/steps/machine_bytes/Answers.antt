use Rattle.stream_edits.proofs.ByteLists as laws
use Rattle.stream_edits.proofs.steps.machine_bytes.Goals as goal

pub returns : goal.returns
returns c = record { written = laws.written-list; resized = laws.resized-list; punched = laws.punched-list }
