use Rattle.std.proofs.Common.{◌≡◌, drop, find}
use Rattle.plain_tree.specs.Plain.{tree_of}
use Rattle.tree_model.specs.Tree.{first_name, names_file}
use Rattle.plain_tree.proofs.tree.PlainTree.first_name.Given as goal

abbrev pub invariant-links : goal.invariant-links
invariant-links l = find (names_file l.file) (drop l.link-index l.self.links.items) ≡ first_name (tree_of l.self).links l.file
