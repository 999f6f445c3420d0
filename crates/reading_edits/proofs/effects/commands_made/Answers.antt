use Rattle.reading_edits.proofs.EffectSteps as laws
use Rattle.reading_edits.proofs.effects.commands_made.Goals as goal

pub returns : goal.returns
returns c = record {
  create = laws.tree-create;
  mkdir = laws.tree-mkdir;
  ln = laws.tree-ln;
  rm_last = laws.tree-rm-last;
  rm_other = laws.tree-rm-other;
  rmdir = laws.tree-rmdir;
  mv = laws.tree-mv;
}
