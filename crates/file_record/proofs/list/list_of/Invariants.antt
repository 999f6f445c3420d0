use Rattle.std.proofs.Common.{◌≡◌, ◌==◌}
use Rattle.std.specs.Prelude.{find}
use Rattle.ntfs_def.specs.declared.kinds.TheConstants.{ATTRIBUTE_LIST}
use Rattle.attr_view.specs.Left.{attributes_left}
use Rattle.attr_view.specs.View.{attributes_of}
use Rattle.file_record.proofs.list.list_of.Given as goal

abbrev pub invariant-loop-attribute : goal.invariant-loop-attribute
invariant-loop-attribute l =
    find (λ attribute. attribute.kind == ATTRIBUTE_LIST) (attributes_of l.view)
    ≡ find (λ attribute. attribute.kind == ATTRIBUTE_LIST) (attributes_left l.attribute-iterator)
