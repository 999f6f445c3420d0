use Rattle.command_edits.proofs.EntriesKept as laws
use Rattle.command_edits.proofs.entries.entries_kept.Goals as goal

pub returns : goal.returns
returns c = record {
  make = laws.make-entries;
  link = laws.link-entries;
  remove = laws.remove-entries;
  unlink = laws.unlink-entries;
  move_to = laws.move-entries;
  set = laws.set-entries;
}
