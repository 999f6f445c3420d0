use Rattle.std.proofs.Common.{◌≡◌, ◌<◌, ℕ, count_by, length}
use Rattle.std.specs.List.{All}
use Rattle.volume_clauses.specs.Marks.{AreRight, HasRoot, Walks}
use Rattle.volume_clauses.proofs.MarkLaws.{unknown}
use Rattle.volume_clauses.proofs.climb.walk_up.Given as goal

abbrev pub invariant-loop-marks : goal.invariant-loop-marks
invariant-loop-marks l = record {
  all : length l.marks ≡ length l.parents;
  at : l.at < length l.parents;
  path : All (λ x. x < length l.parents) l.path.items;
  walks : (root : ℕ) → HasRoot root l.fn.marks → AreRight l.parents root l.fn.marks
      → Walks l.parents root l.fn.marks l.marks l.path.items l.f l.at;
}

abbrev pub decreases-loop-marks : goal.decreases-loop-marks
decreases-loop-marks l = count_by unknown l.marks
