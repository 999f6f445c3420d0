use Rattle.std.proofs.Common.{◌≡◌, ◌==◌}
use Rattle.std.specs.List.{list_any}
use Rattle.ntfs_def.specs.declared.kinds.TheConstants.{ATTRIBUTE_LIST}
use Rattle.attr_view.specs.Left.{attributes_left}
use Rattle.attr_view.specs.View.{attributes_of}
use Rattle.attr_view.proofs.RecordView.has_list.Given as goal

abbrev pub invariant-loop-attribute : goal.invariant-loop-attribute
invariant-loop-attribute l =
    list_any (λ attribute. attribute.kind == ATTRIBUTE_LIST) (attributes_of l.self)
    ≡ list_any (λ attribute. attribute.kind == ATTRIBUTE_LIST) (attributes_left l.attribute-iterator)
