use Rattle.std.proofs.Common.{◌≡◌, ◌++◌, ℕ, List}
use Rattle.volume_def.specs.Files.{Part}
use Rattle.attr_view.specs.Left.{attributes_left}
use Rattle.attr_view.specs.View.{attributes_of}
use Rattle.record_notes.specs.Streams.{NotesStream, places_in, unnamed_parts}
use Rattle.record_notes.proofs.streams.StreamNote.note_record.Given as goal

-- what is noted, with the parts among the attributes that are left, is what all give
abbrev pub invariant-loop-attribute : goal.invariant-loop-attribute
invariant-loop-attribute l = record {
  places : places_in l.self ≡ places_in l.fn.self;
  noted : (n : ℕ) (extents : List Part) → NotesStream extents l.fn.self → (now : List Part) × NotesStream now l.self
      × (now ++ unnamed_parts l.kind n (attributes_left l.attribute-iterator) ≡ extents ++ unnamed_parts l.kind n (attributes_of l.view));
}
