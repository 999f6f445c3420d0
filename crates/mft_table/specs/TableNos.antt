-- Why the table of records is not found.
use Rattle.std.specs.Prelude.{◌≡◌, ℕ, List, Some, None}
use Rattle.vol_disk.specs.Contents.{sector_in}
use Rattle.vol_disk.specs.Count.{Rose}
use Rattle.ntfs_def.specs.Boot.{boot_sector, image_boot_failing}
use Rattle.ntfs_boot.specs.Geometry.{geometry_of, number_of}
use Rattle.volume_def.specs.Table.{HasNoTable, MeetsTable}
use Rattle.mft_table.specs.declared.error.TableNo.{TableNo}
use Rattle.mft_table.specs.declared.error.TableNo.TheVariants as no
use Rattle.mft_table.specs.declared.find.table.Table.{Table}
use Rattle.mft_table.specs.Tables.{table_layout}

-- The image has this table: the boot clause and the table clause hold, and tell it.
pub record IsFoundIn (image : List ℕ) (table : Table) : Type 0 where
  pub boot : image_boot_failing image ≡ None
  pub geometry : table.geometry ≡ geometry_of (boot_sector image)
  pub clause : MeetsTable (sector_in (Some image)) (boot_sector image) (table_layout table)

-- The sectors of a volume with this boot sector tell no table, by the table clause alone.
abbrev pub RefusesAt : (ℕ → List ℕ) → List ℕ → TableNo → Type 0
RefusesAt disk boot (no.Boot fault) = ⊥
RefusesAt disk boot no.Table = HasNoTable disk boot
RefusesAt disk boot no.Device = Unit {0}
RefusesAt disk boot no.Memory = Unit {0}

-- The image has none: the first of both clauses that fails.
abbrev pub Refuses : List ℕ → TableNo → Type 0
Refuses image (no.Boot fault) = image_boot_failing image ≡ Some (number_of fault)
Refuses image no.Table =
    (image_boot_failing image ≡ None)
    × HasNoTable (sector_in (Some image)) (boot_sector image)
Refuses image no.Device = Unit {0}
Refuses image no.Memory = Unit {0}

-- what the disk's count of faults did
abbrev pub CountsNo : ℕ → ℕ → TableNo → Type 0
CountsNo before after no.Device = Rose before after
CountsNo before after _ = after ≡ before
