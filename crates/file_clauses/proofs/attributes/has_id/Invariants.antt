use Rattle.std.proofs.Common.{◌≡◌}
use Rattle.attr_view.specs.Left.{attributes_left}
use Rattle.file_clauses.specs.Attributes.{times_id_among}
use Rattle.file_clauses.proofs.attributes.has_id.Given as goal

abbrev pub invariant-loop-attribute : goal.invariant-loop-attribute
invariant-loop-attribute l = times_id_among l.id (attributes_left l.left) ≡ times_id_among l.id (attributes_left l.attribute-iterator)
