use Rattle.name_edits.proofs.LinksAfter.{links-same}
use Rattle.name_edits.proofs.LinksWhole as laws
use Rattle.name_edits.proofs.links.links_kept.Goals as goal

pub returns : goal.returns
returns c = record {
  same = links-same;
  changed = laws.whole-changed;
  made = laws.whole-made;
  linked = laws.whole-linked;
  unlinked = laws.whole-unlinked;
  gone = laws.whole-gone;
  moved = laws.whole-moved;
}
