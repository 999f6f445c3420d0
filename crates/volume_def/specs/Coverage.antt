-- How often runs cover a cluster, and what lies apart on a volume where no cluster is owned twice.
use Rattle.std.specs.Prelude.{◌≡◌, ◌≢◌, ℕ, ◌+◌, ◌/◌, ◌<◌, ◌≤◌, ◌&&◌, nat_le, nat_lt, Bool, false, List, All, Option, Some, None, count_by}
use Rattle.ntfs_def.specs.declared.run_text.Run.{Run}
use Rattle.volume_def.specs.Blocks.{mirror_sector}
use Rattle.volume_def.specs.Table.{IsOnVolume, TableLayout}

-- whether a run of so many clusters from there on has the cluster; a hole has none
abbrev pub is_in_run : Option ℕ → ℕ → ℕ → Bool
is_in_run None len cluster = false
is_in_run (Some lcn) len cluster = nat_le lcn cluster && nat_lt cluster (lcn + len)

abbrev pub has_cluster : ℕ → Run → Bool
has_cluster cluster run = is_in_run run.lcn run.len cluster

-- how often the runs cover a cluster
abbrev pub times_covered : List Run → ℕ → ℕ
times_covered runs cluster = count_by (has_cluster cluster) runs

-- no cluster is covered twice
abbrev pub AreApart : List Run → Type 0
AreApart runs = (cluster : ℕ) → times_covered runs cluster ≤ 1

-- the clusters of the mirror: those of its first eight sectors
abbrev pub mirror_at : TableLayout → ℕ → ℕ
mirror_at layout sector = (mirror_sector layout + sector) / layout.cluster_sectors

-- The clusters of the table and of its mirror lie on the volume, and none of the table is another of it, or one of the
-- mirror.
pub record IsApart (layout : TableLayout) : Type 0 where
  pub some : 0 < layout.cluster_sectors
  pub on_volume : All (IsOnVolume layout.clusters) layout.runs
  pub mirror_on_volume : (sector : ℕ) → sector < 8 → mirror_at layout sector < layout.clusters
  pub apart : AreApart layout.runs
  pub mirror : (sector : ℕ) → sector < 8 → times_covered layout.runs (mirror_at layout sector) ≡ 0

-- The cluster lies neither in the table nor in its mirror.
pub record IsOutsideTable (layout : TableLayout) (cluster : ℕ) : Type 0 where
  pub table : times_covered layout.runs cluster ≡ 0
  pub mirror : (sector : ℕ) → sector < 8 → mirror_at layout sector ≢ cluster
