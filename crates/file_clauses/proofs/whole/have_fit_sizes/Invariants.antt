use Rattle.std.proofs.Common.{ℕ, ◌<◌, slice_index_or}
use Rattle.file_clauses.specs.declared.extents.Extent.{Extent}
use Rattle.file_clauses.specs.Extents.{HasFitSizes, outlined}
use Rattle.file_clauses.proofs.whole.have_fit_sizes.Given as goal

abbrev pub invariant-loop-extent : goal.invariant-loop-extent
invariant-loop-extent l = (k : ℕ) (d : Extent) → k < l.extent-index → HasFitSizes l.bytes l.f (outlined (slice_index_or l.extents k d))
