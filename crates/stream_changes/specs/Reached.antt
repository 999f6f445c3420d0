-- THE RUN THAT A STREAM TAKES to have so many clusters, one behind its others.
use Rattle.std.specs.Prelude.{◌≡◌, ◌⊎◌, ◌-◌, ◌^◌, ◌<◌, ◌≤◌, ◌++◌, ℕ, Bool, false, List, Option, None, Some, IfSome, IsSome}
use Rattle.std.specs.Option.{option_to_list}
use Rattle.ntfs_def.specs.Runs.{total_clusters}
use Rattle.ntfs_def.specs.declared.run_text.Run.{Run}
use Rattle.volume_def.specs.View.{VolumeView}
use Rattle.extent_edits.specs.Extended.{IsNewRun}
use Rattle.stored_bits.specs.Taken.{AreFlagsOf, IsUnownedRun}
use Rattle.tree_model.specs.Ways.{has_free_run}

-- By these flags of the clusters of a volume no attribute owns a cluster of it.
abbrev pub IsUnownedBy : List Bool → Run → Type 0
IsUnownedBy flags run = (view : VolumeView) → AreFlagsOf view flags → IsUnownedRun view run

-- .. and no run of so many clusters is free.
abbrev pub HasNoRun : List Bool → ℕ → Type 0
HasNoRun flags count = (view : VolumeView) → AreFlagsOf view flags → has_free_run view count ≡ false

-- A run of so many clusters, somewhere
pub record IsRunOf (count : ℕ) (run : Run) : Type 0 where
  pub len : run.len ≡ count
  pub placed : IsSome run.lcn
  pub new : IsNewRun run

-- A stream of `had` clusters needs none to have so many, or this one.
abbrev pub NeedsFor : ℕ → ℕ → Option Run → Type 0
NeedsFor had clusters None = clusters ≤ had
NeedsFor had clusters (Some run) = IsRunOf (clusters - had) run

-- WITH IT, a stream of these runs has all of these: no cluster of it has an owner.
pub record ReachesWith (flags : List Bool) (runs : List Run) (clusters : ℕ) (run : Option Run) (all : List Run) : Type 0 where
  pub needs : NeedsFor (total_clusters runs) clusters run
  pub unowned : IfSome run (IsUnownedBy flags)
  pub all_are : all ≡ runs ++ option_to_list run

-- .. or there is no run of as many as it needs, or they are too many to be told.
abbrev pub CannotReach : List Bool → List Run → ℕ → Type 0
CannotReach flags runs clusters =
    ((total_clusters runs < clusters) × HasNoRun flags (clusters - total_clusters runs)) ⊎ (2 ^ 62 < clusters)
