use Rattle.std.proofs.Common.{◌≡◌, ◌≢◌, ◌<◌, ℕ, length}
use Rattle.volume_clauses.specs.declared.marks.Mark.TheVariants.{Unknown}
use Rattle.volume_clauses.specs.Marks.{mark_at, AreRight, HasRoot}
use Rattle.volume_clauses.proofs.climb.reaching.Given as goal

abbrev pub invariant-loop-f : goal.invariant-loop-f
invariant-loop-f l = record {
  all : length l.marks.items ≡ length l.parents;
  root : HasRoot l.root l.marks.items;
  right : AreRight l.parents l.root l.marks.items;
  known : (k : ℕ) → k < l.f → mark_at l.marks.items k ≢ Unknown;
}
