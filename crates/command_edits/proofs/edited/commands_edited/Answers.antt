use Rattle.command_edits.proofs.CommandKeys as laws
use Rattle.command_edits.proofs.edited.commands_edited.Goals as goal

pub returns : goal.returns
returns c = record {
  make = laws.edited-make;
  link = laws.edited-link;
  remove = laws.edited-remove;
  unlink = laws.edited-unlink;
  move_to = laws.edited-move;
  set = laws.edited-set;
}
