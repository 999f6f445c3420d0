-- A block whose strides end with a number, the array holding what they ended with.
use Rattle.std.specs.Prelude.{◌≡◌, ℕ, ◌+◌, ◌<◌, ◌≤◌, ◌%◌, List, length, slice_index}
use Rattle.vol_bytes.specs.Field.{u16_at}
use Rattle.ntfs_def.specs.Fixup.{array_place, array_end, pair_place, stride_count, stride_end}

pub record Marks (block stored : List ℕ) (number : ℕ) : Type 0 where
  pub len : length stored ≡ length block
  pub first : u16_at stored (array_place block) ≡ number
  pub low : (stride : ℕ) → stride < stride_count block
      → slice_index stored (pair_place block stride) ≡ slice_index block (stride_end stride)
  pub high : (stride : ℕ) → stride < stride_count block
      → slice_index stored (pair_place block stride + 1) ≡ slice_index block (stride_end stride + 1)
  pub ends : (stride : ℕ) → stride < stride_count block → u16_at stored (stride_end stride) ≡ number
  pub before : (k : ℕ) → k < array_place block → slice_index stored k ≡ slice_index block k
  pub behind : (k : ℕ) → k < length block → k % 512 < 510 → array_end block ≤ k → slice_index stored k ≡ slice_index block k
