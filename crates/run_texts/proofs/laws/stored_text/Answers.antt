use Rattle.run_texts.proofs.StoredTexts.{high-few}
use Rattle.run_texts.proofs.TextLaws.{stored-joined, stored-length, stored-longer}
use Rattle.run_texts.proofs.laws.stored_text.Goals as goal

pub returns : goal.returns
returns c = record { least = stored-length; most = high-few; joined = stored-joined; longer = stored-longer }
