-- A volume as a disk tells it.
use Rattle.std.specs.Prelude.{ℕ, List, Option, is_some}
use Rattle.vol_disk.specs.Contents.{sector_in}
use Rattle.volume_def.specs.View.{VolumeView, view_of}
use Rattle.mft_table.specs.declared.mounted.Mounted.{Mounted}
use Rattle.mft_table.specs.Mounted.{mounted_layout}

-- the volume that a disk of these contents is, or of contents that it does not tell, with its table where these tables say
abbrev pub kept_view : Option (List ℕ) → Mounted → VolumeView
kept_view told mounted = view_of (is_some told) (sector_in told) (mounted_layout mounted)
