-- What the word check prints of an image: `sound` of one that the volume definition accepts, `refused Sk n` by the first clause
-- that fails and the least number that breaks it, and `refused dirty` of one that is sound, but was not closed.
use Rattle.std.specs.Prelude.{◌≡◌, ◌/◌, ℕ, List, Some, length}
use Rattle.vol_disk.specs.Contents.{sector_in}
use Rattle.ntfs_def.specs.Boot.{boot_sector}
use Rattle.volume_def.specs.Sound.{IsAccepted, IsRefused}
use Rattle.mount_check.specs.Refusals.{IsDirty}
use Rattle.shell.specs.Report.{Report, says, refuses, unclosed}
use Rattle.shell.specs.Text.{sound_text}

-- a disk of these contents is accepted
abbrev pub AcceptsImage : List ℕ → Type 0
AcceptsImage image = IsAccepted (sector_in (Some image)) (boot_sector image) (length image / 512)

-- it is refused by clause k and its number n
abbrev pub RefusesImage : List ℕ → ℕ → ℕ → Type 0
RefusesImage image k n = IsRefused (sector_in (Some image)) (boot_sector image) (length image / 512) k n

abbrev pub CheckReports : List ℕ → Report → Type 0
CheckReports image (says text) = AcceptsImage image × (text ≡ sound_text)
CheckReports image (refuses refusal) = RefusesImage image refusal.clause refusal.number
CheckReports image unclosed = IsDirty image
