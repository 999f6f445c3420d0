use Rattle.std.proofs.Common.{◌≡◌}
use Rattle.ntfs_def.specs.Attribute.{first_value}
use Rattle.attr_view.specs.Left.{attributes_left}
use Rattle.attr_view.specs.View.{attributes_of}
use Rattle.attr_view.proofs.RecordView.first_value.Given as goal

abbrev pub invariant-loop-attribute : goal.invariant-loop-attribute
invariant-loop-attribute l =
    first_value l.kind (attributes_of l.self) ≡ first_value l.kind (attributes_left l.attribute-iterator)
