use Rattle.std.proofs.lemmas.List.Sorted.{All-permutation}
use Rattle.volume_clauses.specs.Pairs.{IsInRange}
use Rattle.volume_clauses.proofs.KeyLaws.{orders-rise}
use Rattle.volume_clauses.proofs.pairs.sort_keys.Goals as goal

pub returns-clause-sorted : goal.returns-clause-sorted
returns-clause-sorted c =
    orders-rise c.sort_unstable.new.self.items
    (All-permutation IsInRange _ _ c.sort_unstable.ensures.permutation c.requires) c.sort_unstable.ensures.sorted
