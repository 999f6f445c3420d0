use Rattle.edit_written.proofs.LeftAlone.{both, rewritten}
use Rattle.edit_written.proofs.ValueLeftAlone.{value-edited}
use Rattle.edit_written.proofs.laws.left_alone.Goals as goal

pub returns : goal.returns
returns c = record {
  rewritten = rewritten;
  both = both;
  stream_edited = λ key gains old new sound apart e. value-edited key old new sound apart e;
}
