-- The boot sector of a new volume.
use Rattle.std.specs.Prelude.{◌≡◌, ◌⊎◌, ℕ, ◌/◌, ◌<◌, ◌≤◌, List, length, slice_index}
use Rattle.ntfs_def.specs.Boot.{cluster_sectors, mft_cluster, mirror_cluster, serial_number, total_sectors}
use Rattle.volume_format.specs.Options.{Options, plan_of}
use Rattle.volume_format.specs.Plan.{mirror_at, table_at}

-- Its numbers are these.
pub record HasNumbers (boot : List ℕ) (per sectors mft mirror serial : ℕ) : Type 0 where
  pub cluster : cluster_sectors boot ≡ per
  pub sectors_told : total_sectors boot ≡ sectors
  pub mft_at : mft_cluster boot ≡ mft
  pub mirror_at : mirror_cluster boot ≡ mirror
  pub serial_told : serial_number boot ≡ serial

-- Its numbers are those that the options choose.
abbrev pub HasGeometry : Options → List ℕ → Type 0
HasGeometry o boot = HasNumbers boot (o.cluster / 512) o.sectors (table_at (plan_of o)) (mirror_at (plan_of o)) o.serial

-- no number of a volume stands there
abbrev pub IsElsewhere : ℕ → Type 0
IsElsewhere k = (k < 0x0D) ⊎ ((0x0E ≤ k) × (k < 0x28)) ⊎ ((0x40 ≤ k) × (k < 0x48)) ⊎ (0x50 ≤ k)

-- Where no number of a volume stands, the bytes are the same.
pub record IsSameElsewhere (old new : List ℕ) : Type 0 where
  pub len : length new ≡ length old
  pub byte : (k : ℕ) → IsElsewhere k → slice_index new k ≡ slice_index old k
