use Rattle.std.proofs.Common.{◌≡◌}
use Rattle.std.specs.Prelude.{flat_map}
use Rattle.attr_view.specs.Left.{attributes_left}
use Rattle.attr_view.specs.View.{attributes_of}
use Rattle.volume_def.specs.Coverage.{times_covered}
use Rattle.record_notes.specs.Owners.{unnamed_data_runs}
use Rattle.record_notes.proofs.owners.note.data_owns_first_cluster.Given as goal

-- the attributes that were passed over do not have cluster 0
abbrev pub invariant-loop-attribute : goal.invariant-loop-attribute
invariant-loop-attribute l =
    times_covered (flat_map unnamed_data_runs (attributes_of l.view)) 0
    ≡ times_covered (flat_map unnamed_data_runs (attributes_left l.attribute-iterator)) 0
