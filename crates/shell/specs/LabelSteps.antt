-- Record 3 of the table, in which a volume keeps its name and version.
use Rattle.std.specs.Prelude.{◌≡◌, List, ℕ, Some, None, Result, Ok, Err}
use Rattle.vol_disk.specs.Contents.{sector_in}
use Rattle.ntfs_def.specs.declared.records.TheConstants.{VOLUME}
use Rattle.ntfs_def.specs.Boot.{boot_sector, image_boot_failing}
use Rattle.ntfs_boot.specs.Geometry.{number_of}
use Rattle.volume_def.specs.Blocks.{block_of}
use Rattle.volume_def.specs.Table.{MeetsTable, TableLayout}
use Rattle.mft_table.specs.declared.error.TableNo.{TableNo}
use Rattle.mft_table.specs.declared.error.TableNo.TheVariants as no
use Rattle.shell.specs.declared.answer.Answer.{Answer}
use Rattle.shell.specs.declared.answer.Answer.TheVariants.{Refused}
use Rattle.shell.specs.declared.stop.Stop.{Stop}
use Rattle.shell.specs.declared.stop.Stop.TheVariants.{Device, Memory}
use Rattle.shell.specs.Refusals.{boot_refusal, no_table}

-- The image meets the boot clause and the table clause, and its block 3 is this, as stored.
pub record HasVolumeRecord (image stored : List ℕ) : Type 0 where
  pub boot : image_boot_failing image ≡ None
  pub layout : TableLayout
  pub clause : MeetsTable (sector_in (Some image)) (boot_sector image) layout
  pub block : stored ≡ block_of (sector_in (Some image)) layout VOLUME

-- what is said of an image in which no record 3 is found
abbrev pub RefusesWith : TableNo → Result Answer Stop → Type 0
RefusesWith (no.Boot fault) result = result ≡ Ok (Refused (boot_refusal (number_of fault)))
RefusesWith no.Table result = result ≡ Ok (Refused no_table)
RefusesWith no.Device result = result ≡ Err Device
RefusesWith no.Memory result = result ≡ Err Memory
