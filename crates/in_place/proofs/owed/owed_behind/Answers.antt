use Rattle.in_place.proofs.BehindLaws as laws
use Rattle.in_place.proofs.owed.owed_behind.Goals as goal

pub returns : goal.returns
returns c = record {
  blocks = laws.blocks-behind;
  copies = laws.copies-behind;
  log_end = λ changed old mid new w apart free rest. laws.log_end-behind changed old mid new w apart.owners apart.some free rest;
}
