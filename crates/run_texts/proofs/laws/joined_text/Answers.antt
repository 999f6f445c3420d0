use Rattle.run_texts.proofs.TextLaws.{joined-shorter}
use Rattle.run_texts.proofs.laws.joined_text.Goals as goal

pub returns : goal.returns
returns c = joined-shorter
