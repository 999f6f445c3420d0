-- What the word boot prints of an image.
use Rattle.std.specs.Prelude.{◌≡◌, ℕ, List, Option, Some, None}
use Rattle.ntfs_def.specs.Boot.{boot_sector, image_boot_failing}
use Rattle.ntfs_boot.specs.Geometry.{geometry_of}
use Rattle.shell.specs.Refusals.{boot_refusal}
use Rattle.shell.specs.Report.{Report, says, refuses}
use Rattle.shell.specs.Text.{geometry_text}

-- the geometry where the boot clause holds, and otherwise the least number of it that fails
abbrev pub sector_report : List ℕ → Option ℕ → Report
sector_report boot None = says (geometry_text (geometry_of boot))
sector_report boot (Some number) = refuses (boot_refusal number)

abbrev pub boot_report : List ℕ → Report
boot_report image = sector_report (boot_sector image) (image_boot_failing image)

abbrev pub BootReports : List ℕ → Report → Type 0
BootReports image report = report ≡ boot_report image
