use Rattle.std.proofs.Common.{◌≡◌, ℕ, ◌<◌, ◌≤◌, true, slice_index_or}
use Rattle.file_clauses.specs.declared.extents.Extent.{Extent}
use Rattle.file_clauses.specs.Extents.{is_like, outlined}
use Rattle.file_clauses.proofs.whole.group_end.Given as goal

abbrev pub invariant-loop-end : goal.invariant-loop-end
invariant-loop-end l = (k : ℕ) (d : Extent) → l.start ≤ k → k < l.end
    → is_like (outlined (slice_index_or l.extents l.start d)) (outlined (slice_index_or l.extents k d)) ≡ true
