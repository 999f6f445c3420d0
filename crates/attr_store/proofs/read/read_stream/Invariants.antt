use Rattle.std.proofs.Common.{◌≡◌, ℕ, ◌-◌, ◌≤◌, ◌++◌, drop, length}
use Rattle.std.specs.Prelude.{IsTrue}
use Rattle.volume_def.specs.ExtentsClause.{AreAttribute}
use Rattle.volume_def.specs.Values.{pieces_touched, spot_at, stored_bytes}
use Rattle.volume_def.specs.Table.{cluster_bytes}
use Rattle.attr_view.specs.View.{attribute_of}
use Rattle.file_record.specs.Mft.{MftReads, faults_of, view}
use Rattle.file_record.specs.Streams.{IsSeam}
use Rattle.attr_store.specs.Sought.{parts_held_like}
use Rattle.attr_store.proofs.read.read_stream.Given as goal

-- what was read stands in front, and each piece of it was asked for once
abbrev pub invariant-extents : goal.invariant-extents
invariant-extents g l = record {
  within : l.done ≤ length l.initial.into;
  cut : IsSeam l.at l.done (length l.initial.into);
  read : IsTrue (view g.D.Disk l.initial.mft).told → (f : ℕ)
      → AreAttribute (cluster_bytes (view g.D.Disk l.initial.mft).layout) f (parts_held_like l.file (attribute_of l.wanted))
      → l.into ≡ stored_bytes (view g.D.Disk l.initial.mft).cluster (cluster_bytes (view g.D.Disk l.initial.mft).layout)
      (spot_at (parts_held_like l.file (attribute_of l.wanted))) l.at l.done ++ drop l.done l.initial.into;
  faults : faults_of g.D.Disk l.mft ≡ faults_of g.D.Disk l.initial.mft;
  reads : MftReads g.D.Disk l.initial.mft l.mft (pieces_touched l.at l.done);
}

abbrev pub decreases-extents : goal.decreases-extents
decreases-extents g l = length l.initial.into - l.done
