use Rattle.name_edits.proofs.NamesInTurn as laws
use Rattle.name_edits.proofs.references.names_in_turn.Goals as goal

pub returns : goal.returns
returns c = record {
  kept = laws.KeepsNames-then;
  others = laws.KeepsOthers-then;
  none = laws.loses-none;
  more = laws.loses-more;
  between = laws.loses-kept;
  directories = laws.directories-lost;
}
