-- What a disk over a file shows.
use Rattle.std.specs.Prelude.{ℕ, Bool}
use Rattle.vol_disk.specs.declared.counts.Counts.{Counts}
use Rattle.vol_disk.specs.declared.file.FileDisk.{FileDisk}

-- the number of sectors
abbrev pub sectors_of : FileDisk → ℕ
sectors_of disk = disk.sectors

-- the calls that failed, and the others
abbrev pub file_counts : FileDisk → Counts
file_counts disk = disk.counts

-- nothing was written since the file was last synchronised
abbrev pub is_synced_of : FileDisk → Bool
is_synced_of disk = disk.is_synced
