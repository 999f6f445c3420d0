-- The limits of a plan, and the sizes of its clusters.
use Rattle.std.specs.Prelude.{◌≡◌, ◌⊎◌, ℕ, ◌^◌, ◌≤◌, length}
use Rattle.volume_format.specs.Plan.{Plan, items_end}

-- the sizes of clusters that are made here
abbrev pub IsClusterSize : ℕ → Type 0
IsClusterSize size = (size ≡ 512) ⊎ (size ≡ 1024) ⊎ (size ≡ 2048) ⊎ (size ≡ 4096)

-- The plan is within its limits, and its items fit on the volume.
pub record FitsPlan (p : Plan) : Type 0 where
  pub size : IsClusterSize p.size
  pub items : items_end p ≤ p.clusters
  pub few : p.clusters ≤ 2 ^ 26
  pub short : length p.label ≤ 64
