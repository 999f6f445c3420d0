use Rattle.std.proofs.Common.{◌≡◌, take}
use Rattle.tree_read.proofs.standing.copied_names.Given as goal

abbrev pub invariant-names : goal.invariant-names
invariant-names l = l.copy.items ≡ take l.name-index l.names
