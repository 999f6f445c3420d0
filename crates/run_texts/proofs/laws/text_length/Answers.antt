use Rattle.run_texts.proofs.TextLaws.{length-is}
use Rattle.run_texts.proofs.laws.text_length.Goals as goal

pub returns : goal.returns
returns c = length-is
