use Rattle.std.proofs.Common.{◌≡◌, ℕ, ◌+◌, ◌^◌, ◌<◌, ◌≤◌, drop, length, map, slice_index_or, sum_by}
use Rattle.file_clauses.specs.declared.extents.Extent.{Extent}
use Rattle.file_clauses.specs.Extents.{Follow, clusters_covered, covered_by, outlined}
use Rattle.file_clauses.proofs.whole.covered_in_order.Given as goal

-- what is left follows from here exactly where all of it follows from 0
abbrev pub invariant-loop-extent : goal.invariant-loop-extent
invariant-loop-extent l = record {
  bound : l.end ≤ 2 ^ 64;
  to : Follow l.end (drop l.extent-index (map outlined l.extents)) → Follow 0 (map outlined l.extents);
  from : Follow 0 (map outlined l.extents) → Follow l.end (drop l.extent-index (map outlined l.extents));
  each : 1 < length l.extents → (k : ℕ) (d : Extent) → k < l.extent-index → 1 ≤ covered_by (slice_index_or l.extents k d).held;
  sum : l.end + sum_by clusters_covered (drop l.extent-index (map outlined l.extents)) ≡ sum_by clusters_covered (map outlined l.extents);
}
