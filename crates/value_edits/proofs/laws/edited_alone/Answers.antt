use Rattle.value_edits.proofs.EditedRecord as laws
use Rattle.value_edits.proofs.laws.edited_alone.Goals as goal

pub returns : goal.returns
returns c key gains old new before after told sound apart are e = laws.edited-any key old new sound apart e before after are
