-- The clusters that an edit of a stream may come to own, and where it needs none. `size` is the bytes of a cluster, `extents` the parts of
-- the stream.
-- Layout: Linux-NTFS documentation, "Attribute Headers" and concept "Data Runs"; Carrier, File System Forensic Analysis, chapter 13.
use Rattle.std.specs.Prelude.{ℕ, ◌+◌, ◌*◌, ◌==◌, ◌&&◌, ◌||◌, not, nat_lt, nat_le, max, Bool, true, false, List, count_by, filter, length}
use Rattle.std.specs.Prelude.{[], Option, is_some, option_and_then}
use Rattle.std.specs.List.{range_with_len}
use Rattle.std.specs.Option.{option_map_or}
use Rattle.std.specs.Str.{bytes_eq}
use Rattle.ntfs_def.specs.Units.{units_in}
use Rattle.ntfs_def.specs.declared.kinds.TheConstants.{DATA}
use Rattle.ntfs_def.specs.declared.run_text.Spot.{Spot}
use Rattle.ntfs_def.specs.declared.run_text.Spot.TheVariants.{Outside, Hole, At}
use Rattle.volume_def.specs.Files.{Part, content_extent, content_value, parts, records_of}
use Rattle.volume_def.specs.StreamSize.{real_size, told_size}
use Rattle.volume_def.specs.Values.{first_part, spot_at}
use Rattle.volume_def.specs.View.{VolumeView}
use Rattle.ntfs_def.specs.Rounded.{clusters_for}
use Rattle.tree_model.specs.Subjects.{Located}
use Rattle.tree_model.specs.Tree.{Tree, sought_stream}

-- the parts of a stream of the file, by the units of its name
abbrev pub parts_named : VolumeView → ℕ → List ℕ → List Part
parts_named view f name = filter (λ part. (part.kind == DATA) && bytes_eq (units_in part.name) name) (parts (records_of view) f)

-- .. of the stream that a command names, as it is spelt in its file; none where it is not there
abbrev pub stream_parts : VolumeView → Tree → Located → List Part
stream_parts view tree at =
    option_map_or (λ stream. parts_named view at.file stream.name)
    (option_and_then (λ node. sought_stream tree.fold node.streams at.stream) at.node) []

-- the value of a stream that has one, which an edit may have to put into clusters
abbrev pub stream_value : List Part → Option (List ℕ)
stream_value extents = option_and_then (λ part. content_value part.content) (first_part extents)

abbrev pub stream_value_len : List Part → ℕ
stream_value_len extents = option_map_or length (stream_value extents) 0

-- so many bytes from `from` on touch the cluster of this number
abbrev pub touches : ℕ → ℕ → ℕ → ℕ → Bool
touches size from len vcn = nat_lt 0 len && nat_lt (vcn * size) (from + len) && nat_lt from (vcn * size + size)

-- a run places it
abbrev pub is_cluster : Spot → Bool
is_cluster Outside = false
is_cluster Hole = false
is_cluster (At cluster) = true

-- How many clusters the bytes touch that no run places, or the old value of the stream does.
abbrev pub new_clusters : ℕ → List Part → ℕ → ℕ → ℕ
new_clusters size extents from len =
    count_by (λ vcn. (touches size from len vcn || touches size 0 (stream_value_len extents) vcn) && not (is_cluster (spot_at extents vcn)))
    (range_with_len 0 (clusters_for (max (from + len) (stream_value_len extents)) size))

-- the bytes of a stream that were written
abbrev pub initialized_in : Part → ℕ
initialized_in part = option_map_or (λ extent. extent.sizes.initialized) (content_extent part.content) (real_size part.content)

abbrev pub initialized_size : List Part → ℕ
initialized_size extents = option_map_or initialized_in (first_part extents) 0

-- The bytes go into clusters that are there, begin where the stream was written, or right behind, and end within it.
abbrev pub is_in_place : ℕ → List Part → ℕ → ℕ → Bool
is_in_place size extents from len =
    (new_clusters size extents from len == 0) && nat_le from (initialized_size extents)
    && nat_le (from + len) (told_size (first_part extents))

-- They go over bytes in clusters that were written before.
abbrev pub goes_over : ℕ → List Part → ℕ → ℕ → Bool
goes_over size extents from len =
    is_some (first_part extents) && (is_in_place size extents from len && nat_le (from + len) (initialized_size extents))
