use Rattle.std.proofs.Common.{◌≡◌, ◌<◌, ℕ, length, slice_index}
use Rattle.std.specs.List.{All}
use Rattle.volume_clauses.specs.Tallies.{parent_within, tally_at}
use Rattle.volume_clauses.proofs.tallies.parents_of.Given as goal

abbrev pub invariant-loop-f : goal.invariant-loop-f
invariant-loop-f l = record {
  all : length l.parents.items ≡ l.f;
  inside : All (λ p. p < length l.tallies) l.parents.items;
  each : (k : ℕ) → k < l.f → slice_index l.parents.items k ≡ parent_within (length l.tallies) k (tally_at l.tallies k).parent;
}
