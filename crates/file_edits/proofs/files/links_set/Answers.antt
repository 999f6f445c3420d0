use Rattle.file_edits.proofs.LinkEdits as laws
use Rattle.file_edits.proofs.files.links_set.Goals as goal

pub returns : goal.returns
returns c = record {
  edited = laws.edited-links;
  ready = laws.ready-links;
  own = laws.numbers-own;
  others = laws.numbers-other;
  names = laws.names-same;
}
