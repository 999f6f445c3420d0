use Rattle.std.proofs.Common.{◌≡◌, ℕ, ◌<◌, ◌≤◌, ◌%◌, ◌*◌, ◌+◌, length, get_or}
use Rattle.vol_bytes.specs.Field.{u16_at}
use Rattle.ntfs_def.specs.Fixup.{array_place, array_end, stride_end, pair_place}
use Rattle.ntfs_fixup.proofs.mark.Given as goal

abbrev pub invariant-loop-stride : goal.invariant-loop-stride
invariant-loop-stride l = record {
  first : u16_at l.block l.place ≡ l.number;
  low : (k : ℕ) → k < l.stride → get_or l.block (pair_place l.fn.block k) 0 ≡ get_or l.fn.block (stride_end k) 0;
  high : (k : ℕ) → k < l.stride → get_or l.block (pair_place l.fn.block k + 1) 0 ≡ get_or l.fn.block (stride_end k + 1) 0;
  ends : (k : ℕ) → k < l.stride → u16_at l.block (stride_end k) ≡ l.number;
  later : (k : ℕ) → 512 * l.stride + 510 ≤ k → get_or l.block k 0 ≡ get_or l.fn.block k 0;
  before : (k : ℕ) → k < array_place l.fn.block → get_or l.block k 0 ≡ get_or l.fn.block k 0;
  behind : (k : ℕ) → k < length l.fn.block → k % 512 < 510 → array_end l.fn.block ≤ k → get_or l.block k 0 ≡ get_or l.fn.block k 0;
}
