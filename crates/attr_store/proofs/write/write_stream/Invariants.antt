use Rattle.std.proofs.Common.{◌≡◌, ◌+◌, ◌-◌, ◌/◌, ◌%◌, ◌≤◌, ℕ, List, ◌++◌, length}
use Rattle.vol_stage.specs.Staged.{StagesOnly, spare}
use Rattle.volume_def.specs.Coverage.{IsApart}
use Rattle.volume_def.specs.ExtentsClause.{AreAttribute}
use Rattle.volume_def.specs.Table.{cluster_bytes}
use Rattle.volume_def.specs.Values.{spot_at}
use Rattle.file_record.specs.Clusters.{IsOwnStream, IsPlaced, stream_sectors}
use Rattle.attr_view.specs.View.{attribute_of}
use Rattle.file_record.specs.Mft.{stage_of, view}
use Rattle.attr_store.specs.Sought.{parts_held_like}
use Rattle.attr_store.specs.Written.{StagesAtMost}
use Rattle.attr_store.proofs.PutLaws.{IsDone}
use Rattle.attr_store.proofs.write.write_stream.Given as goal

-- the bytes in front were put, run by run
abbrev pub invariant-runs : goal.invariant-runs
invariant-runs g l = record {
  aligned : l.place % 512 ≡ 0;
  whole : length l.rest % 512 ≡ 0;
  from : l.initial.place ≤ l.place;
  sum : l.place + length l.rest ≡ l.initial.place + length l.initial.rest;
  room : length l.rest / 512 ≤ spare g.D.Disk (stage_of g.D.Disk l.mft);
  stages : StagesAtMost g.D.Disk ((l.place - l.initial.place) / 512) l.initial.mft l.mft;
  places : (f : ℕ) → AreAttribute (cluster_bytes (view g.D.Disk l.initial.mft).layout) f (parts_held_like l.file (attribute_of l.wanted))
      → StagesOnly g.D.Disk (stream_sectors (view g.D.Disk l.initial.mft).layout (spot_at (parts_held_like l.file (attribute_of l.wanted)))
      l.initial.place (length l.initial.rest)) (stage_of g.D.Disk l.initial.mft) (stage_of g.D.Disk l.mft);
  written : (f : ℕ) → AreAttribute (cluster_bytes (view g.D.Disk l.initial.mft).layout) f (parts_held_like l.file (attribute_of l.wanted))
      → IsApart (view g.D.Disk l.initial.mft).layout
      → IsOwnStream (view g.D.Disk l.initial.mft).layout (spot_at (parts_held_like l.file (attribute_of l.wanted)))
      → IsPlaced (cluster_bytes (view g.D.Disk l.initial.mft).layout) (spot_at (parts_held_like l.file (attribute_of l.wanted)))
      l.initial.place (length l.initial.rest)
      → IsDone (view g.D.Disk l.initial.mft) (view g.D.Disk l.mft) (spot_at (parts_held_like l.file (attribute_of l.wanted)))
      l.initial.place l.initial.rest l.rest (l.place - l.initial.place);
}

abbrev pub decreases-runs : goal.decreases-runs
decreases-runs g l = length l.rest
