use Rattle.std.proofs.Common.{◌≡◌, ◌<◌, ℕ, length, take}
use Rattle.volume_clauses.specs.Tallies.{IsTally, places_in_file, tally_at}
use Rattle.volume_clauses.proofs.tallies.tallies_of.Given as goal

abbrev pub invariant-loop-name : goal.invariant-loop-name
invariant-loop-name l = record {
  all : length l.tallies.items ≡ l.count;
  each : (f : ℕ) → f < l.count → IsTally (places_in_file f (take l.name-index l.name-items)) (tally_at l.tallies.items f);
}
