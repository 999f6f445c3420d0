-- What boot says of the sector that it read.
use Rattle.std.proofs.Common.{◌≡◌, ℕ, ◌*◌, ◌/◌, List, length, Option, Some, ap, ◌∙◌}
use Rattle.std.specs.Prelude.{IfSome}
use Rattle.ntfs_def.specs.Boot.{boot_sector, boot_failing}
use Rattle.mft_table.proofs.BootSectors.{sectors_told}
use Rattle.shell.specs.Boot.{sector_report, boot_report}
use Rattle.shell.specs.Report.{Report}

-- the report, by the sector that was read
pub boot_report-read : (now : Option (List ℕ)) (image sector : List ℕ) (size : ℕ) (answer : Report)
    → IfSome now (λ all. length all ≡ 512 * size)
    → now ≡ Some image → sector ≡ boot_sector image → answer ≡ sector_report sector (boot_failing sector size) → answer ≡ boot_report image
boot_report-read now image sector size answer len told read is =
    is
    ∙ ap (λ (n : ℕ). sector_report sector (boot_failing sector n)) (sectors_told now image size len told)
    ∙ ap (λ (s : List ℕ). sector_report s (boot_failing s (length image / 512))) read
