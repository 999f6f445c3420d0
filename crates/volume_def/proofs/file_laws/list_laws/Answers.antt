use Rattle.volume_def.proofs.EntryLaws.{entries-freed, entries-moved, entries-other, entries-own, entries-taken, lists-own}
use Rattle.volume_def.proofs.PartLaws.{NameHolders-view}
use Rattle.volume_def.specs.Files.{records_of}
use Rattle.volume_def.proofs.file_laws.list_laws.Goals as goal

pub returns : goal.returns
returns c = record {
  own = entries-own;
  other = entries-other;
  taken = λ old new n f t. entries-taken (records_of old) (records_of new) n f (NameHolders-view old) t;
  freed = λ old new n f t. entries-freed (records_of old) (records_of new) n f (NameHolders-view old) t;
  moved = entries-moved;
  lists = lists-own;
}
