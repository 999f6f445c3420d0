use Rattle.std.proofs.Common.{◌<◌, ℕ, get_or}
use Rattle.volume_clauses.specs.declared.pairs.NameKey.{NameKey}
use Rattle.volume_clauses.specs.Pairs.{IsPairedName}
use Rattle.volume_clauses.proofs.pairs.first_unpaired.Given as goal

abbrev pub invariant-loop-i : goal.invariant-loop-i
invariant-loop-i l = (j : ℕ) (d : NameKey) → j < l.i → IsPairedName l.keys (get_or l.keys j d)
