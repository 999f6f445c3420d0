use Rattle.std.proofs.Common.{◌≡◌, length}
use Rattle.std.specs.Prelude.{find}
use Rattle.file_record.specs.Left.{attributes_left}
use Rattle.attr_store.specs.Sought.{spans_named}
use Rattle.attr_store.proofs.extents.next_extent.Given as goal

-- those that were passed over are not sought
abbrev pub invariant-loop-attribute : goal.invariant-loop-attribute
invariant-loop-attribute l =
    find (spans_named l.kind l.name l.vcn) (attributes_left l.fn.attributes)
    ≡ find (spans_named l.kind l.name l.vcn) (attributes_left l.attributes)

abbrev pub decreases-loop-attribute : goal.decreases-loop-attribute
decreases-loop-attribute l = length (attributes_left l.attributes)
