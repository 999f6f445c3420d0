use Rattle.std.proofs.Common.{◌≡◌, ◌-◌, ◌≤◌, ◌++◌, drop, length}
use Rattle.std.specs.Prelude.{IsTrue}
use Rattle.volume_def.specs.Values.{pieces_touched, stored_bytes}
use Rattle.volume_def.specs.Table.{cluster_bytes}
use Rattle.mft_table.specs.Mft.{MftReads, faults_of, view}
use Rattle.mft_table.specs.Streams.{IsSeam}
use Rattle.record_notes.specs.Streams.{spot_noted}
use Rattle.check_records.proofs.streams.read_stored.Given as goal

-- what was read stands in front, and each piece of it was asked for once
abbrev pub invariant-clusters : goal.invariant-clusters
invariant-clusters g l = record {
  within : l.done ≤ length l.initial.into;
  cut : IsSeam l.at l.done (length l.initial.into);
  read : IsTrue (view g.D.Disk l.initial.mft).told
      → l.into ≡ stored_bytes (view g.D.Disk l.initial.mft).cluster (cluster_bytes (view g.D.Disk l.initial.mft).layout)
      (spot_noted l.note) l.at l.done ++ drop l.done l.initial.into;
  faults : faults_of g.D.Disk l.mft ≡ faults_of g.D.Disk l.initial.mft;
  reads : MftReads g.D.Disk l.initial.mft l.mft (pieces_touched l.at l.done);
}

abbrev pub decreases-clusters : goal.decreases-clusters
decreases-clusters g l = length l.initial.into - l.done
