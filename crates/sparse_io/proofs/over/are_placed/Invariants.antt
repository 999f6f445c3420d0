use Rattle.std.proofs.Common.{◌≡◌, ◌+◌, ◌-◌, ◌<◌, ◌≤◌, ℕ, true}
use Rattle.volume_def.specs.ExtentsClause.{AreAttribute}
use Rattle.volume_def.specs.Values.{spot_at}
use Rattle.attr_view.specs.View.{attribute_of}
use Rattle.tree_model.specs.StreamRoom.{is_cluster}
use Rattle.attr_store.specs.Sought.{parts_held_like}
use Rattle.sparse_io.proofs.over.are_placed.Given as goal

-- the clusters in front are placed
abbrev pub invariant-runs : goal.invariant-runs
invariant-runs l = record {
  from : l.initial.vcn ≤ l.vcn;
  below : l.vcn ≤ l.last;
  placed : (size f : ℕ) → AreAttribute size f (parts_held_like l.file (attribute_of l.stream)) → (k : ℕ) → l.initial.vcn ≤ k → k < l.vcn
      → is_cluster (spot_at (parts_held_like l.file (attribute_of l.stream)) k) ≡ true;
}

abbrev pub decreases-runs : goal.decreases-runs
decreases-runs l = l.last + 1 - l.vcn
