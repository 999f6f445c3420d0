-- Where the table of records lies, as this crate keeps it.
use Rattle.std.specs.Prelude.{◌≡◌, ℕ, ◌/◌, List}
use Rattle.ntfs_def.specs.declared.run_text.Run.{Run}
use Rattle.ntfs_def.specs.Fixup.{opened_of}
use Rattle.volume_def.specs.Table.{IsRecord, TellsTable, TableLayout}
use Rattle.ntfs_boot.specs.declared.Geometry.{Geometry}
use Rattle.mft_table.specs.declared.blocks.BlockReader.{BlockReader}
use Rattle.mft_table.specs.declared.find.table.Table.{Table}

-- the layout of these runs on a volume of this geometry
abbrev pub layout_on : Geometry → List Run → ℕ → ℕ → TableLayout
layout_on geometry runs initialized count = record {
  cluster_sectors = geometry.cluster / 512;
  clusters = geometry.clusters;
  mirror = geometry.mirror;
  runs = runs;
  initialized = initialized;
  count = count;
}

-- the table in the format's terms
abbrev pub table_layout : Table → TableLayout
table_layout table = layout_on table.geometry table.runs table.initialized table.count

-- .. of the table from which a reader of blocks reads
abbrev pub reader_layout : BlockReader → TableLayout
reader_layout reader = layout_on reader.geometry.now reader.runs.now reader.initialized reader.count

-- The layout takes from the geometry what the boot sector tells.
pub record IsFromGeometry (geometry : Geometry) (layout : TableLayout) : Type 0 where
  pub cluster_sectors : layout.cluster_sectors ≡ geometry.cluster / 512
  pub clusters : layout.clusters ≡ geometry.clusters
  pub mirror : layout.mirror ≡ geometry.mirror

-- The opened record 0 tells a volume of this geometry that its table lies so.
pub record RecordTells (geometry : Geometry) (record_0 : List ℕ) (layout : TableLayout) : Type 0 where
  pub volume : IsFromGeometry geometry layout
  pub table : TellsTable geometry.mft record_0 layout

-- The same of record 0 as it is stored.
pub record BlockTells (geometry : Geometry) (stored : List ℕ) (layout : TableLayout) : Type 0 where
  pub readable : IsRecord stored
  pub tells : RecordTells geometry (opened_of stored) layout

-- the table that was found is one of this volume, and its layout is told so
abbrev pub IsFoundBy : Geometry → (TableLayout → Type 0) → Table → Type 0
IsFoundBy geometry Tells table = (table.geometry ≡ geometry) × Tells (table_layout table)
