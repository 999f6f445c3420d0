use Rattle.name_edits.proofs.CommandLinks as laws
use Rattle.name_edits.proofs.commands.commands_kept.Goals as goal

pub returns : goal.returns
returns c = record {
  made = laws.sound-made;
  linked = laws.sound-linked;
  unlinked = laws.sound-unlinked;
  removed = laws.sound-removed;
  moved = laws.sound-moved;
}
