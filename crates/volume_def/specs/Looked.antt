-- What the clauses look at of a disk, so that a change of any other sector changes no answer.
use Rattle.std.specs.Prelude.{◌≡◌, ◌⊎◌, ℕ, ◌+◌, ◌/◌, ◌<◌, ◌≤◌, List, Contains}
use Rattle.ntfs_def.specs.declared.kinds.TheConstants.{ATTRIBUTE_LIST, BITMAP, DATA, INDEX_ALLOCATION}
use Rattle.ntfs_def.specs.declared.records.TheConstants.{CLUSTER_BITMAP, UPCASE}
use Rattle.volume_def.specs.Blocks.{mirror_sector}
use Rattle.volume_def.specs.Coverage.{times_covered}
use Rattle.volume_def.specs.Files.{Part, part_runs, parts, records_of}
use Rattle.volume_def.specs.Sound.{told_view}
use Rattle.volume_def.specs.Table.{MeetsTable, TableLayout, first_record}
use Rattle.volume_def.specs.View.{VolumeView}

-- A clause looks into the clusters of such a part of file f: of lists, indexes and bitmaps, and of the data of the cluster
-- bitmap and of the table of case.
abbrev pub IsLookedInto : ℕ → Part → Type 0
IsLookedInto f part = (part.kind ≡ ATTRIBUTE_LIST) ⊎ (part.kind ≡ INDEX_ALLOCATION) ⊎ (part.kind ≡ BITMAP)
    ⊎ ((part.kind ≡ DATA) × ((f ≡ CLUSTER_BITMAP) ⊎ (f ≡ UPCASE)))

-- The cluster belongs to one of them.
pub record IsLookedAt (view : VolumeView) (cluster : ℕ) : Type 0 where
  pub file : ℕ
  pub part : Part
  pub among : Contains (parts (records_of view) file) part
  pub looked : IsLookedInto file part
  pub covered : 1 ≤ times_covered (part_runs part) cluster

-- The sector lies in the first eight of the mirror, which hold its four copies.
abbrev pub IsOfMirror : TableLayout → ℕ → Type 0
IsOfMirror layout sector = (k : ℕ) × (k < 8) × (sector ≡ mirror_sector layout + k)

-- The sector lies in the table, in the mirror, or in a cluster that a clause looks at.
abbrev pub IsLookedAtSector : (ℕ → List ℕ) → TableLayout → ℕ → Type 0
IsLookedAtSector disk layout sector = (1 ≤ times_covered layout.runs (sector / layout.cluster_sectors))
    ⊎ IsOfMirror layout sector ⊎ IsLookedAt (told_view disk layout) (sector / layout.cluster_sectors)

-- The view with other copies, clusters and sectors behind them.
abbrev pub with_clusters : VolumeView → (ℕ → List ℕ) → (ℕ → List ℕ) → (ℕ → List ℕ) → VolumeView
with_clusters view copy cluster rest = record {
  told = view.told;
  layout = view.layout;
  block = view.block;
  copy = copy;
  cluster = cluster;
  rest = rest;
}

-- Two disks with this boot sector have the same record 0, and where it tells a table, the same in each sector that a clause
-- looks at.
pub record AgreeWhereLooked (old new : ℕ → List ℕ) (boot : List ℕ) : Type 0 where
  pub record_0 : first_record new boot ≡ first_record old boot
  pub sectors : (layout : TableLayout) → MeetsTable old boot layout → (sector : ℕ)
      → IsLookedAtSector old layout sector → new sector ≡ old sector
