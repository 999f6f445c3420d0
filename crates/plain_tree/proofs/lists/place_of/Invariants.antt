use Rattle.std.proofs.Common.{◌≡◌, ◌+◌, drop}
use Rattle.tree_model.specs.Answers.{path_above}
use Rattle.tree_model.proofs.PlaceLaws.{rank}
use Rattle.plain_tree.proofs.lists.place_of.Given as goal

abbrev pub invariant-lines : goal.invariant-lines
invariant-lines l = l.place + rank path_above l.line (drop l.place l.lines) ≡ rank path_above l.line l.lines
