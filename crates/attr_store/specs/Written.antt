-- Bytes that are written into the clusters of an attribute: where they lie, and what is staged.
use Rattle.std.specs.Prelude.{◌≡◌, ◌+◌, ◌-◌, ◌*◌, ◌/◌, ◌<◌, ◌≤◌, ℕ, List, [], Option, Some, None, length, unwrap_or}
use Rattle.std.specs.List.{range_with_len}
use Rattle.vol_disk.specs.declared.Disk.{Ghosts}
use Rattle.ntfs_def.specs.declared.run_text.Run.{Run}
use Rattle.ntfs_def.specs.declared.run_text.Spot.{Spot}
use Rattle.ntfs_def.specs.declared.run_text.Spot.TheVariants.{Outside}
use Rattle.ntfs_def.specs.Runs.{runs_in}
use Rattle.data_runs.specs.Left.{run_left}
use Rattle.file_record.specs.MftType.{Mft}
use Rattle.vol_stage.specs.Staged.{places}
use Rattle.file_record.specs.Mft.{MftStages, stage_of}
use Rattle.file_record.specs.Streams.{spot_on}

-- what the run text of an extent that begins here has left of the run that holds a cluster, from that cluster on
abbrev pub run_in_text : ℕ → List ℕ → ℕ → Option Run
run_in_text first text vcn = run_left (unwrap_or (runs_in text) []) (vcn - first)

-- the sectors of a run from its byte `skip` on, `per` to a cluster, in which so many bytes lie; none of a hole
abbrev pub run_sectors : ℕ → Option ℕ → ℕ → ℕ → List ℕ
run_sectors per None skip len = []
run_sectors per (Some lcn) skip len = range_with_len (lcn * per + skip / 512) (len / 512)

-- Cluster `vcn` of a stream and those behind it lie as this run does, as far as it goes; or the cluster lies outside.
abbrev pub LiesAs : (ℕ → Spot) → ℕ → Option Run → Type 0
LiesAs spot vcn None = spot vcn ≡ Outside
LiesAs spot vcn (Some run) = (k : ℕ) → k < run.len → spot (vcn + k) ≡ spot_on run.lcn k

-- What a call keeps that stages so many sectors at most, whichever they are: so many more are staged then at most, told or not.
pub record StagesAtMost {D : Type 0} (g : Ghosts D) (most : ℕ) (old new : Mft D g) : Type 0 where
  pub stages : MftStages g (places g (stage_of g new)) most old new
  pub few : length (places g (stage_of g new)) ≤ length (places g (stage_of g old)) + most
