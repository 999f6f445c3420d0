use Rattle.tree_model.proofs.NamesLaws as names
use Rattle.tree_model.proofs.ReadingLaws as laws
use Rattle.tree_model.proofs.laws.edited_reading_laws.Goals as goal

pub returns : goal.returns
returns c = record { node = laws.nodes-insert; link = laws.links-more; taken = names.read-taken }
