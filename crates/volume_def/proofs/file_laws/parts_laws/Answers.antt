use Rattle.volume_def.proofs.PartLaws.{Contains-HoldsPart, HoldsPart-Contains, IsPart-Contains, NameHolders-view}
use Rattle.volume_def.proofs.RecordLaws.{parts-freed, parts-moved, parts-other, parts-own, parts-taken, parts-unmoved}
use Rattle.volume_def.specs.Files.{records_of}
use Rattle.volume_def.proofs.file_laws.parts_laws.Goals as goal

pub returns : goal.returns
returns c = record {
  own = parts-own;
  other = parts-other;
  taken = parts-taken;
  freed = parts-freed;
  moved = parts-moved;
  unmoved = parts-unmoved;
  held = HoldsPart-Contains;
  holds = Contains-HoldsPart;
  named = λ view f part h. IsPart-Contains (records_of view) f part (NameHolders-view view) h;
}
