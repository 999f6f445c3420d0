-- What is claimed of a new volume.
use Rattle.std.specs.Prelude.{◌≡◌, ℕ, ◌<◌, ◌≤◌, List, [], codes, map}
use Rattle.std.specs.List.{range_with_len}
use Rattle.ntfs_def.specs.declared.kinds.TheConstants.{DATA}
use Rattle.ntfs_def.specs.declared.records.TheConstants.{SECURE}
use Rattle.ntfs_def.specs.Units.{wide}
use Rattle.volume_def.specs.Files.{Part, parts_at, records_of}
use Rattle.volume_def.specs.OwnersClause.{times_owned}
use Rattle.volume_def.specs.Sound.{Clause, Holds}
use Rattle.volume_def.specs.Values.{value_on}
use Rattle.volume_def.specs.View.{VolumeView}
use Rattle.volume_format.specs.FitsPlan.{FitsPlan}
use Rattle.volume_format.specs.Plan.{Plan, items_end}
use Rattle.volume_format.specs.Planned.{IsPlanned}

-- the claim holds of each view of a new volume whose plan fits
abbrev pub OfNewVolumes : (Plan → VolumeView → Type 0) → Type 0
OfNewVolumes P = (p : Plan) (view : VolumeView) → FitsPlan p → IsPlanned p view → P p view

-- the clause holds of new volumes
abbrev pub HoldsOfNew : Clause → Type 0
HoldsOfNew clause = OfNewVolumes (λ p view. Holds view clause)

-- the clusters of the items are owned once, and no others
pub record OwnsItems (p : Plan) (view : VolumeView) : Type 0 where
  pub below : (c : ℕ) → c < items_end p → times_owned (records_of view) c ≡ 1
  pub behind : (c : ℕ) → items_end p ≤ c → times_owned (records_of view) c ≡ 0

-- The attribute of these parts has so many bytes, each by this rule.
abbrev pub HoldsBytes : VolumeView → List Part → ℕ → (ℕ → ℕ) → Type 0
HoldsBytes view all len rule = value_on view all ≡ map rule (range_with_len 0 len)

-- the record of $LogFile
abbrev pub log_file : ℕ
log_file = 2

-- the unnamed $DATA of $LogFile
abbrev pub log_parts : VolumeView → List Part
log_parts view = parts_at view log_file DATA []

-- the stream of security descriptors, $SDS of $Secure
abbrev pub security_name : List ℕ
security_name = wide (codes "$SDS")

abbrev pub security_parts : VolumeView → List Part
security_parts view = parts_at view SECURE DATA security_name
