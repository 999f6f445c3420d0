-- What the tables of a mounted volume hold of an image that tells its contents.
use Rattle.std.specs.Prelude.{◌≡◌, ℕ, Bool, List, Some, None}
use Rattle.vol_disk.specs.Contents.{sector_in}
use Rattle.list_laws.specs.Bits.{flags_in}
use Rattle.ntfs_def.specs.Boot.{boot_sector, image_boot_failing}
use Rattle.ntfs_boot.specs.Geometry.{geometry_of}
use Rattle.volume_def.specs.BitmapClauses.{cluster_bits, record_bits}
use Rattle.volume_def.specs.CaseClause.{case_parts}
use Rattle.volume_def.specs.Sound.{HoldBelow, told_view}
use Rattle.volume_def.specs.Table.{MeetsTable}
use Rattle.volume_def.specs.Values.{value_on}
use Rattle.volume_def.specs.View.{VolumeView}
use Rattle.mft_table.specs.declared.mounted.Mounted.{Mounted}
use Rattle.mft_table.specs.Mounted.{mounted_layout}

-- A disk of these contents meets S1 and S2, and these are the geometry and the table of records.
pub record HasTable (image : List ℕ) (mounted : Mounted) : Type 0 where
  pub boot : image_boot_failing image ≡ None
  pub geometry : mounted.geometry ≡ geometry_of (boot_sector image)
  pub clause : MeetsTable (sector_in (Some image)) (boot_sector image) (mounted_layout mounted)

-- The bits and the table of case are those that the volume stores. A bit past the end of its bitmap is clear.
pub record AreStored (view : VolumeView) (clusters records : List Bool) (upcase : List ℕ) : Type 0 where
  pub clusters_are : clusters ≡ flags_in (value_on view (cluster_bits view)) view.layout.clusters
  pub records_are : records ≡ flags_in (value_on view (record_bits view)) view.layout.count
  pub upcase_is : upcase ≡ value_on view (case_parts view)

-- the volume that a disk of these contents is, with the table that is kept
abbrev pub volume_in : List ℕ → Mounted → VolumeView
volume_in image mounted = told_view (sector_in (Some image)) (mounted_layout mounted)

-- A disk of these contents meets S1, S2 and the clauses of a view before this place, and these are its tables.
pub record HoldsTables (rank : ℕ) (image : List ℕ) (mounted : Mounted) : Type 0 where
  pub table : HasTable image mounted
  pub clauses : HoldBelow (volume_in image mounted) rank
  pub values : AreStored (volume_in image mounted) mounted.clusters mounted.records mounted.upcase
