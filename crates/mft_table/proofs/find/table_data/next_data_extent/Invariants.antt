use Rattle.std.proofs.Common.{◌≡◌, length}
use Rattle.std.specs.Prelude.{filter}
use Rattle.volume_def.specs.Table.{is_data_extent}
use Rattle.attr_view.specs.Left.{attributes_left}
use Rattle.mft_table.proofs.find.table_data.next_data_extent.Given as goal

abbrev pub invariant-loop-attribute : goal.invariant-loop-attribute
invariant-loop-attribute l =
    filter is_data_extent (attributes_left l.fn.attributes) ≡ filter is_data_extent (attributes_left l.attributes)

abbrev pub decreases-loop-attribute : goal.decreases-loop-attribute
decreases-loop-attribute l = length (attributes_left l.attributes)
