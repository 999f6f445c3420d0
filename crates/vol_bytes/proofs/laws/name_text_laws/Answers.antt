use Rattle.vol_bytes.proofs.LetterLaws.{one_name, one_print, printed_back}
use Rattle.vol_bytes.proofs.laws.name_text_laws.Goals as goal

pub returns-clause-one_name : goal.returns-clause-one_name
returns-clause-one_name c = one_name

pub returns-clause-one_printed : goal.returns-clause-one_printed
returns-clause-one_printed c = one_print

pub returns-clause-printed : goal.returns-clause-printed
returns-clause-printed c = printed_back
