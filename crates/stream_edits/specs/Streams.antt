-- One attribute of a volume: its value, or its stream in clusters, and the bytes that the stream shows.
use Rattle.std.specs.Prelude.{◌≡◌, ℕ, ◌<◌, List, [], Option, Some, IsSome, length, slice_index}
use Rattle.ntfs_def.specs.Attribute.{ExtentHeader}
use Rattle.ntfs_def.specs.declared.run_text.Run.{Run}
use Rattle.ntfs_def.specs.declared.run_text.Spot.{Spot}
use Rattle.volume_def.specs.Files.{Clusters, Part, Value, parts_at}
use Rattle.volume_def.specs.Table.{cluster_bytes}
use Rattle.volume_def.specs.Values.{IsPlain, first_part, spot_at, stored_byte, value_byte, value_on}
use Rattle.volume_def.specs.View.{VolumeView}
use Rattle.edit_def.specs.Kept.{Key}

abbrev pub extents_at : VolumeView → Key → List Part
extents_at view key = parts_at view key.file key.kind key.name

-- the attribute is not there
abbrev pub IsMissing : VolumeView → Key → Type 0
IsMissing view key = extents_at view key ≡ []

-- it is there
abbrev pub IsThere : VolumeView → Key → Type 0
IsThere view key = IsSome (first_part (extents_at view key))

-- It is there, is not packed, and has these bytes.
pub record ShowsBytes (view : VolumeView) (key : Key) (bytes : List ℕ) : Type 0 where
  pub plain : IsPlain (extents_at view key)
  pub value : value_on view (extents_at view key) ≡ bytes

-- It has this value, in one part.
pub record HasValue (view : VolumeView) (key : Key) (flags : ℕ) (value : List ℕ) : Type 0 where
  pub part : Part
  pub only : first_part (extents_at view key) ≡ Some part
  pub flags_are : part.flags ≡ flags
  pub content : part.content ≡ Value value

-- A stream in clusters: by these its bytes are told.
pub record ClusterStream : Type 0 where
  pub cluster : ℕ → List ℕ  -- the bytes of each cluster of the volume
  pub size : ℕ  -- the bytes of a cluster
  pub spot : ℕ → Spot  -- where each cluster of the stream lies
  pub initialized : ℕ  -- its initialized size, in bytes
  pub real : ℕ  -- its real size, in bytes

-- byte i of what lies in its clusters
abbrev pub byte_in : ClusterStream → ℕ → ℕ
byte_in s i = stored_byte s.cluster s.size s.spot i

-- byte i of it: zero from the initialized size on
abbrev pub byte_of : ClusterStream → ℕ → ℕ
byte_of s i = value_byte s.cluster s.size s.spot s.initialized i

abbrev pub stream_of : VolumeView → List Part → ExtentHeader → ClusterStream
stream_of view extents first = record {
  cluster = view.cluster;
  size = cluster_bytes view.layout;
  spot = spot_at extents;
  initialized = first.sizes.initialized;
  real = first.sizes.real;
}

-- It lies in clusters.
pub record HasStream (view : VolumeView) (key : Key) (flags : ℕ) (s : ClusterStream) : Type 0 where
  pub part : Part
  pub first : first_part (extents_at view key) ≡ Some part
  pub flags_are : part.flags ≡ flags
  pub extent : ExtentHeader
  pub runs : Option (List Run)
  pub content : part.content ≡ Clusters extent runs
  pub is : s ≡ stream_of view (extents_at view key) extent

-- THE STREAM SHOWS THESE BYTES.
pub record Shows (s : ClusterStream) (byte : ℕ → ℕ) (n : ℕ) : Type 0 where
  pub len : s.real ≡ n
  pub bytes : (i : ℕ) → i < n → byte_of s i ≡ byte i

-- .. these of a list
abbrev pub ShowsList : ClusterStream → List ℕ → Type 0
ShowsList s bytes = Shows s (slice_index bytes) (length bytes)
