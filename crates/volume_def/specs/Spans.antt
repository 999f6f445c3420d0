-- The cluster that a stream's extent says it holds, by the numbers of its header alone.
-- Layout: Linux-NTFS documentation, "Attribute Headers"; Carrier, File System Forensic Analysis, chapter 13.
use Rattle.std.specs.Prelude.{ℕ, ◌&&◌, nat_le, Bool, false, Option, Some, None}
use Rattle.ntfs_def.specs.Attribute.{ExtentHeader}
use Rattle.volume_def.specs.Files.{Part, content_extent}

-- from its first cluster to its last one; no extent, no cluster
abbrev pub is_within : ℕ → Option ExtentHeader → Bool
is_within vcn None = false
is_within vcn (Some extent) = nat_le extent.sizes.first vcn && nat_le vcn extent.sizes.last

-- whether the header of the part tells that it holds this cluster of the stream
abbrev pub spans_vcn : ℕ → Part → Bool
spans_vcn vcn part = is_within vcn (content_extent part.content)
