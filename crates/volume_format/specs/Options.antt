-- The options of a new volume, and the plan that they choose.
use Rattle.std.specs.Prelude.{ℕ, ◌/◌, ◌%◌, ◌^◌, ◌≤◌, List, [], ◌∷◌, length}
use Rattle.std.specs.List.{flat_map}
use Rattle.volume_format.specs.FitsPlan.{IsClusterSize}
use Rattle.volume_format.specs.Plan.{Plan}

-- what is asked for: sectors, the bytes of a cluster, the serial number, the units of the label
pub record Options : Type 0 where
  pub sectors : ℕ
  pub cluster : ℕ
  pub serial : ℕ
  pub label : List ℕ

-- the whole clusters of so many sectors
abbrev pub clusters_in : ℕ → ℕ → ℕ
clusters_in sectors size = sectors / (size / 512)

-- The options are in their ranges, on a disk of so many sectors.
pub record AreInRange (disk : ℕ) (o : Options) : Type 0 where
  pub least : 2048 ≤ o.sectors
  pub most : o.sectors ≤ disk
  pub cluster : IsClusterSize o.cluster
  pub few : clusters_in o.sectors o.cluster ≤ 2 ^ 26
  pub named : 1 ≤ length o.label
  pub short : length o.label ≤ 32

-- units as they are stored, each in two bytes, the lower first
abbrev pub stored_units : List ℕ → List ℕ
stored_units units = flat_map (λ unit. unit % 256 ∷ unit / 256 ∷ []) units

-- the plan of a new volume with these options
abbrev pub plan_of : Options → Plan
plan_of o = record { size = o.cluster; clusters = clusters_in o.sectors o.cluster; label = stored_units o.label }
