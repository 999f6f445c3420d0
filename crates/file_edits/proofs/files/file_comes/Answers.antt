use Rattle.file_edits.proofs.FileComes as laws
use Rattle.file_edits.proofs.FileNames.{comes-unnamed}
use Rattle.file_edits.proofs.files.file_comes.Goals as goal

pub returns : goal.returns
returns c = record {
  edited = laws.edited-comes;
  ready = laws.ready-comes;
  unnamed = λ f old new before after t ready nameless. comes-unnamed f old new (laws.more f old new before after t ready) nameless;
}
