use Rattle.std.proofs.Common.{◌≡◌, ◌↔◌, drop}
use Rattle.tree_read.proofs.standing.are_same_names.Given as goal

abbrev pub invariant-names : goal.invariant-names
invariant-names l = (l.fn.one ≡ l.fn.other) ↔ (drop l.name-index l.one ≡ l.rest)
