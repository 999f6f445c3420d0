-- What the tables of a mounted volume tell of it.
use Rattle.std.specs.Prelude.{◌≡◌, ℕ, ◌/◌, ◌%◌, IsTrue, length}
use Rattle.ntfs_def.specs.Boot.{is_cluster_sectors}
use Rattle.volume_def.specs.Table.{TableLayout, LiesOn}
use Rattle.mft_table.specs.declared.mounted.Mounted.{Mounted}
use Rattle.mft_table.specs.Tables.{layout_on}

-- where the table of records lies; it has as many records as flags
abbrev pub mounted_layout : Mounted → TableLayout
mounted_layout mounted = layout_on mounted.geometry mounted.table mounted.initialized (length mounted.records)

-- What holds on a disk of so many sectors, whatever it tells.
pub record StandsOn (sectors : ℕ) (mounted : Mounted) : Type 0 where
  pub whole : mounted.geometry.cluster % 512 ≡ 0
  pub size : IsTrue (is_cluster_sectors (mounted.geometry.cluster / 512))
  pub clusters : length mounted.clusters ≡ mounted.geometry.clusters
  pub table : LiesOn sectors (mounted_layout mounted)
