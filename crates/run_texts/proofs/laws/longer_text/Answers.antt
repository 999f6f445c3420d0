use Rattle.run_texts.proofs.TextLaws.{put-longer}
use Rattle.run_texts.proofs.laws.longer_text.Goals as goal

pub returns : goal.returns
returns c = put-longer
