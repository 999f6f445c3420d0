use Rattle.command_edits.proofs.ValuesKept as laws
use Rattle.command_edits.proofs.kept.values_kept.Goals as goal

pub returns : goal.returns
returns c = record {
  make = laws.make-values;
  link = laws.link-values;
  remove = laws.remove-values;
  unlink = laws.unlink-values;
  move_to = laws.move-values;
  set = laws.set-values;
}
