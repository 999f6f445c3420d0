-- Which part of an attribute tells its sizes, and how long its value is.
use Rattle.std.specs.Prelude.{◌≡◌, ℕ, List, length, Contains, Option, Some, None}
use Rattle.ntfs_def.specs.Attribute.{ExtentHeader}
use Rattle.volume_def.specs.Files.{Clusters, Content, Part, Value, content_extent}

-- The extent begins with cluster 0 of the stream that has these parts.
pub record IsFirstExtent (extents : List Part) (extent : ExtentHeader) : Type 0 where
  pub part : Part
  pub among : Contains extents part
  pub told : content_extent part.content ≡ Some extent
  pub from_start : extent.sizes.first ≡ 0

-- a value has its bytes, an extent tells the real size of its stream
abbrev pub real_size : Content → ℕ
real_size (Value value) = length value
real_size (Clusters extent runs) = extent.sizes.real

-- none tells: no byte
abbrev pub told_size : Option Part → ℕ
told_size None = 0
told_size (Some part) = real_size part.content
