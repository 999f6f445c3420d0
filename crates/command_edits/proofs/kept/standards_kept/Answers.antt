use Rattle.command_edits.proofs.StandardKept as laws
use Rattle.command_edits.proofs.kept.standards_kept.Goals as goal

pub returns : goal.returns
returns c = record {
  make = laws.make-standard;
  link = laws.link-standard;
  remove = laws.remove-standard;
  unlink = laws.unlink-standard;
  move_to = laws.move-standard;
  set = laws.set-standard;
}
