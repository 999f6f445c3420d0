use Rattle.std.proofs.Common.{◌-◌, ◌≤◌, drop, length, map}
use Rattle.file_clauses.specs.Extents.{AreAllWhole, outlined}
use Rattle.file_clauses.proofs.whole.are_whole_in_order.Given as goal

-- all are whole exactly where those from here on are
abbrev pub invariant-loop-start : goal.invariant-loop-start
invariant-loop-start l = record {
  inside : l.start ≤ length l.extents;
  to : AreAllWhole l.cluster_bytes l.f (drop l.start (map outlined l.extents)) → AreAllWhole l.cluster_bytes l.f (map outlined l.extents);
  from : AreAllWhole l.cluster_bytes l.f (map outlined l.extents) → AreAllWhole l.cluster_bytes l.f (drop l.start (map outlined l.extents));
}

abbrev pub decreases-loop-start : goal.decreases-loop-start
decreases-loop-start l = length l.extents - l.start
