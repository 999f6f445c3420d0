use Rattle.name_edits.proofs.HiddenFiles as laws
use Rattle.name_edits.proofs.hidden.hidden_kept.Goals as goal

pub returns : goal.returns
returns c = record {
  kept = λ old new bases grown names. laws.hides-kept old new bases grown (λ g. (names g).names);
  gets = laws.hides-gets;
  loses = laws.hides-loses;
  comes = laws.hides-comes;
  goes = laws.hides-goes;
}
