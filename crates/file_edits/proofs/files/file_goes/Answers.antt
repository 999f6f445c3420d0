use Rattle.file_edits.proofs.FileGoes as laws
use Rattle.file_edits.proofs.FileNames.{comes-unnamed}
use Rattle.file_edits.proofs.files.file_goes.Goals as goal

pub returns : goal.returns
returns c = record {
  edited = laws.edited-goes;
  ready = laws.ready-goes;
  unnamed = λ f old new before after t ready nameless. comes-unnamed f new old (laws.more f old new before after t ready) nameless;
}
