use Rattle.std.proofs.Common.{◌≡◌, map, take}
use Rattle.std.specs.List.{All}
use Rattle.volume_clauses.specs.Pairs.{IsInRange, key_of}
use Rattle.volume_clauses.proofs.pairs.sorted_keys.Given as goal

abbrev pub invariant-loop-name : goal.invariant-loop-name
invariant-loop-name l = record {
  range : All IsInRange l.keys.items;
  keys : l.keys.items ≡ map key_of (take l.name-index l.name-items);
}
