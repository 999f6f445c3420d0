use Rattle.record_edits.proofs.SoundReady as laws
use Rattle.record_edits.proofs.laws.ready_volume.Goals as goal

pub returns : goal.returns
returns c = laws.ready-sound
