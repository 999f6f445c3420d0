use Rattle.volume_def.proofs.LookedLaws.{IsAccepted-agreed, IsRefused-agreed, agree-back, clean-agreed, layout-kept, meets-agreed}
use Rattle.volume_def.proofs.laws.same_answer.Goals as goal

pub returns : goal.returns
returns c = record {
  agree = agree-back;
  layout = λ old new boot sectors layout agree. layout-kept old new boot sectors agree layout;
  meets = λ old new boot sectors layout agree. meets-agreed old new boot sectors agree layout;
  clean = λ old new boot sectors layout agree. clean-agreed old new boot sectors agree layout;
  accepted = IsAccepted-agreed;
  refused = IsRefused-agreed;
}
