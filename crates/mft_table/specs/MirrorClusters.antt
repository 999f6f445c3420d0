-- Where the clusters of the mirror lie.
use Rattle.std.specs.Prelude.{ℕ, ◌<◌}
use Rattle.volume_def.specs.Coverage.{mirror_at}
use Rattle.mft_table.specs.declared.mounted.Mounted.{Mounted}
use Rattle.mft_table.specs.Mounted.{mounted_layout}

-- Each of the eight sectors of the copies lies in a cluster of the volume.
abbrev pub IsMirrorInside : Mounted → Type 0
IsMirrorInside mounted = (sector : ℕ) → sector < 8 → mirror_at (mounted_layout mounted) sector < mounted.geometry.clusters
