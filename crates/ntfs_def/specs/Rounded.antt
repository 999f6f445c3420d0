-- Lengths rounded up: attributes, entries and what stands in them begin at multiples of 8 bytes, and streams have whole clusters.
-- Layout: Linux-NTFS documentation, "Attribute Headers" and "Index Entry"; Carrier, File System Forensic Analysis, chapters 11
-- and 13.
use Rattle.std.specs.Prelude.{ℕ, ◌+◌, ◌-◌, ◌*◌, ◌/◌}

-- the next multiple of 8
abbrev pub up_to_8 : ℕ → ℕ
up_to_8 bytes = (bytes + 7) / 8 * 8

-- the clusters that so many bytes fill, where a cluster has `size` bytes
abbrev pub clusters_for : ℕ → ℕ → ℕ
clusters_for bytes size = (bytes + (size - 1)) / size
