-- A SOUND VOLUME whose contents are told is ready.
use Rattle.std.proofs.Common.{◌≤◌, ℕ, List, length}
use Rattle.volume_def.specs.Files.{records_of}
use Rattle.volume_def.specs.Sound.{IsSound, told_view}
use Rattle.volume_def.specs.Sound.{Limits, References}
use Rattle.volume_def.specs.Table.{MeetsTable, TableLayout}
use Rattle.volume_edits.proofs.TableParts.{some-sectors, table-part, table-unnamed}
use Rattle.edit_def.specs.Marks.{IsEditable, Marks}
use Rattle.edit_def.proofs.NamesLaws.{bases-of}
use Rattle.record_edits.specs.Between.{IsReady}

pub ready-sound : (disk : ℕ → List ℕ) (boot : List ℕ) (layout : TableLayout) (marks : Marks) → MeetsTable disk boot layout
    → ((n : ℕ) → length (disk n) ≤ 512) → IsSound (told_view disk layout) → IsEditable (told_view disk layout) marks
    → IsReady (told_view disk layout) marks
ready-sound disk boot layout marks meets sectors sound editable = record {
  editable = editable;
  limits = sound Limits;
  bases = bases-of (records_of (told_view disk layout)) (sound References);
  table = record {
    table = table-part disk boot layout meets sectors sound;
    unnamed = table-unnamed disk boot layout meets sectors sound;
    some = some-sectors disk boot layout meets sectors sound;
  };
}
