use Rattle.std.proofs.Common.{◌≡◌, ◌++◌, drop}
use Rattle.tree_model.specs.Answers.{path_text}
use Rattle.tree_model.proofs.text.path_text.Given as goal

abbrev pub invariant-names : goal.invariant-names
invariant-names l = l.text.items ++ path_text (drop l.name-index l.path) ≡ path_text l.path
