use Rattle.std.proofs.Common.{ℕ, ◌<◌}
use Rattle.ntfs_def.specs.Fixup.{EndsWithNumber}
use Rattle.ntfs_fixup.proofs.first_torn.Given as goal

abbrev pub invariant-loop-stride : goal.invariant-loop-stride
invariant-loop-stride l = (k : ℕ) → k < l.stride → EndsWithNumber l.block k
