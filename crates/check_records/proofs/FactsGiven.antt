-- What the facts of a pass give where the clause on attributes holds.
use Rattle.std.proofs.Common.{◌<◌, ℕ}
use Rattle.volume_def.specs.Files.{records_of}
use Rattle.volume_def.specs.Sound.{HoldBelow}
use Rattle.volume_def.specs.Sound.Clause.{Attributes}
use Rattle.volume_def.specs.View.{VolumeView}
use Rattle.record_notes.specs.declared.facts.Facts.{Facts}
use Rattle.record_notes.specs.Facts.{FactsNote, RightNote}

pub RightNote-all : (view : VolumeView) (facts : Facts) (rank : ℕ) → 1 < rank → HoldBelow view rank
    → FactsNote (records_of view) view.layout.count facts → RightNote (records_of view) view.layout.count facts
RightNote-all view facts rank behind before note = note.right (λ k h. before Attributes behind k)
