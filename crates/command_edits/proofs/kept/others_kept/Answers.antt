use Rattle.command_edits.proofs.NumbersKept as laws
use Rattle.command_edits.proofs.kept.others_kept.Goals as goal

pub returns : goal.returns
returns c = record {
  make = laws.make-others;
  link = laws.link-others;
  remove = laws.remove-others;
  unlink = laws.unlink-others;
  move_to = laws.move-others;
  set = laws.set-names;
}
