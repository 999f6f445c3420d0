use Rattle.std.proofs.Common.{◌≡◌, ◌⊎◌, ◌<◌, ℕ, length, slice_index}
use Rattle.std.specs.List.{Contains}
use Rattle.volume_clauses.specs.Marks.{mark_at}
use Rattle.volume_clauses.proofs.climb.settle.Given as goal

abbrev pub invariant-loop-x : goal.invariant-loop-x
invariant-loop-x l = record {
  all : length l.marks ≡ length l.fn.marks;
  path_has : (j : ℕ) → j < l.x-index → mark_at l.marks (slice_index l.path j) ≡ l.verdict;
  others : (k : ℕ) → (mark_at l.marks k ≡ mark_at l.fn.marks k) ⊎ ((mark_at l.marks k ≡ l.verdict) × Contains l.path k);
}
