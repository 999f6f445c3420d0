-- THE NUMBERS OF AN EXTENT THAT IS CUT, or goes on, and its header with them.
-- Layout: Linux-NTFS documentation, "Attribute Headers"; Carrier, File System Forensic Analysis, chapter 13, the data structure
-- of a non-resident attribute. The attribute stands at the front of the bytes.
use Rattle.std.specs.Prelude.{◌≡◌, ◌*◌, ◌^◌, ◌<◌, ◌≤◌, ℕ, Bool, IsTrue, List, length, min, slice_index, if◌then◌else◌}
use Rattle.vol_bytes.specs.Field.{SameOutside, u64_at}
use Rattle.ntfs_def.specs.Attribute.{allocated_len, attribute_len, initialized_len, last_vcn, real_len}
use Rattle.ntfs_def.specs.Rounded.{clusters_for}
use Rattle.ntfs_def.specs.declared.sizes.Sizes.{Sizes}
use Rattle.volume_def.specs.ExtentsClause.{last_vcn_of}

-- An extent of these numbers and so many clusters can end behind `size` bytes, in clusters of `bytes`.
pub record CanEnd (sizes : Sizes) (total bytes size : ℕ) : Type 0 where
  pub first : sizes.first ≡ 0
  pub long : size ≤ sizes.real
  pub covers : clusters_for size bytes ≤ total
  pub told : clusters_for size bytes * bytes < 2 ^ 64

-- its numbers then
abbrev pub sizes_at_end : Sizes → ℕ → ℕ → Sizes
sizes_at_end was bytes size = record {
  allocated = clusters_for size bytes * bytes;
  real = size;
  initialized = min was.initialized size;
  first = 0;
  last = last_vcn_of (clusters_for size bytes);
}

-- An extent of these numbers can have so many clusters.
pub record CanHave (sizes : Sizes) (total bytes : ℕ) : Type 0 where
  pub first : sizes.first ≡ 0
  pub told : total * bytes < 2 ^ 64

-- its numbers then
abbrev pub sizes_over : ℕ → ℕ → ℕ → ℕ → Sizes
sizes_over total bytes real initialized = record {
  allocated = total * bytes;
  real = real;
  initialized = initialized;
  first = 0;
  last = last_vcn_of total;
}

-- the bytes of a header of an extent, which may have one number more
abbrev pub extent_header_len : Bool → ℕ
extent_header_len more = if more then 72 else 64

-- The header has these numbers, but for the first cluster, which stays, and where it has one more this; no other byte changed.
pub record PutsNumbers (old new : List ℕ) (sizes : Sizes) (more : Bool) (stored : ℕ) : Type 0 where
  pub len : length new ≡ length old
  pub front : (k : ℕ) → k < 0x18 → slice_index new k ≡ slice_index old k
  pub last : last_vcn new 0 ≡ sizes.last
  pub middle : (k : ℕ) → 0x20 ≤ k → k < 0x28 → slice_index new k ≡ slice_index old k
  pub allocated : allocated_len new 0 ≡ sizes.allocated
  pub real : real_len new 0 ≡ sizes.real
  pub initialized : initialized_len new 0 ≡ sizes.initialized
  pub compressed : IsTrue more → u64_at new 0x40 ≡ stored
  pub rest : (k : ℕ) → extent_header_len more ≤ k → slice_index new k ≡ slice_index old k

-- .. and it tells its own length.
pub record PutsHeader (old new : List ℕ) (sizes : Sizes) (more : Bool) (stored : ℕ) : Type 0 where
  pub mid : List ℕ
  pub len : attribute_len mid 0 ≡ length old
  pub outside : SameOutside old mid 0x04 0x08
  pub numbers : PutsNumbers mid new sizes more stored
