use Rattle.command_edits.proofs.SoundBetween as laws
use Rattle.command_edits.proofs.between.sound_between.Goals as goal

pub returns : goal.returns
returns c = record { whole = laws.sound-by; part = laws.between-sound; stored = laws.sound-stored; sound = laws.sound-whole }
