use Rattle.volume_def.proofs.SoundLaws.{IsAccepted-only, IsRefused-exact}
use Rattle.volume_def.proofs.laws.one_answer.Goals as goal

pub returns : goal.returns
returns c = record { refused = IsRefused-exact; accepted = IsAccepted-only }
