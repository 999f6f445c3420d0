use Rattle.std.proofs.Common.{◌≡◌, ℕ, ◌<◌, ◌≤◌, ◌/◌, get_or}
use Rattle.ntfs_def.specs.Fixup.{opened_byte}
use Rattle.ntfs_fixup.proofs.restore.Given as goal

abbrev pub invariant-loop-stride : goal.invariant-loop-stride
invariant-loop-stride l = record {
  done : (k : ℕ) → k / 512 < l.stride → get_or l.block k 0 ≡ opened_byte l.fn.block k;
  same : (k : ℕ) → l.stride ≤ k / 512 → get_or l.block k 0 ≡ get_or l.fn.block k 0;
}
