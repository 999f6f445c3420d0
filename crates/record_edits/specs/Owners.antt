-- RUNS THAT AN EDIT NAMES, and the bits that follow.
use Rattle.std.specs.Prelude.{◌≡◌, ◌==◌, ℕ, ◌<◌, ◌≤◌, Bool, true, false, List, length, slice_get, count_by, Option, Some, None}
use Rattle.std.specs.Prelude.{if◌then◌else◌}
use Rattle.ntfs_def.specs.declared.run_text.Run.{Run}
use Rattle.volume_def.specs.Coverage.{has_cluster, times_covered}
use Rattle.volume_def.specs.Files.{Part, Records, joined_runs}
use Rattle.volume_def.specs.OwnersClause.{times_owned}

-- how often parts have a cluster
abbrev pub times_in : List Part → ℕ → ℕ
times_in list c = times_covered (joined_runs list) c

-- The parts `now` in place of `was` name no cluster twice, and newly only clusters of the volume without an owner. What `was` names
-- is owned.
pub record NamesRightly (records : Records) (clusters : ℕ) (was now : List Part) : Type 0 where
  pub apart : (c : ℕ) → times_in now c ≤ 1
  pub on_volume : (c : ℕ) → 1 ≤ times_in now c → times_in was c ≡ 0 → c < clusters
  pub free : (c : ℕ) → 1 ≤ times_in now c → times_in was c ≡ 0 → times_owned records c ≡ 0
  pub held : (c : ℕ) → times_in was c ≤ times_owned records c

-- The flags of clusters newly named are set, those of clusters no longer named cleared, and all others stay.
pub record FollowsRuns (before after : List Bool) (was now : List Part) : Type 0 where
  pub count : length after ≡ length before
  pub taken : (c : ℕ) → c < length before → times_in was c < times_in now c → slice_get after c ≡ Some true
  pub given : (c : ℕ) → c < length before → times_in now c < times_in was c → slice_get after c ≡ Some false
  pub kept : (c : ℕ) → times_in now c ≡ times_in was c → slice_get after c ≡ slice_get before c

-- The cluster lies there.
abbrev pub is_at : ℕ → Option ℕ → Bool
is_at c None = false
is_at c (Some place) = place == c

-- how often these clusters of a stream lie in cluster c, where `None` is one of a hole
abbrev pub times_at : List (Option ℕ) → ℕ → ℕ
times_at clusters c = count_by (is_at c) clusters

-- whether a run has it
abbrev pub one_of : Run → ℕ → ℕ
one_of run c = if has_cluster c run then 1 else 0
