use Rattle.record_edits.proofs.FileEdits as laws
use Rattle.record_edits.proofs.FormEdits as forms
use Rattle.record_edits.proofs.laws.edited_files.Goals as goal

pub returns : goal.returns
returns c = record {
  numbers = laws.numbers-kept;
  names = laws.names-kept;
  forms = λ key old new before after e come f. forms.forms-come old new e.n e.stored e.was e.now e.block f come;
}
