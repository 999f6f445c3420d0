use Rattle.std.proofs.Common.{◌≡◌, ◌++◌, [], ◌∷◌, length}
use Rattle.tree_model.specs.Answers.{path_to}
use Rattle.plain_tree.specs.Plain.{tree_of}
use Rattle.plain_tree.proofs.tree.PlainTree.path_of.Given as goal

abbrev pub invariant-steps : goal.invariant-steps
invariant-steps l =
    path_to (tree_of l.self) l.left l.dir ++ l.names.items
    ≡ path_to (tree_of l.self) (length l.self.links.items) l.link.parent ++ l.link.name ∷ []

abbrev pub decreases-steps : goal.decreases-steps
decreases-steps l = l.left
