use Rattle.attr_view.specs.Left.{attributes_left}
use Rattle.attr_view.specs.View.{attributes_of}
use Rattle.record_notes.specs.Names.{told_names}
use Rattle.record_notes.proofs.NameLaws.{Noting}
use Rattle.record_notes.proofs.names.Names.note.Given as goal

abbrev pub invariant-loop-attribute : goal.invariant-loop-attribute
invariant-loop-attribute l =
    Noting l.n l.file (told_names l.fn.self) (told_names l.self) (attributes_of l.view) (attributes_left l.attribute-iterator)
