use Rattle.std.proofs.Common.{◌≡◌, ◌++◌, drop}
use Rattle.std.specs.List.{filter_map}
use Rattle.tree_model.specs.Answers.{ls_line, listing}
use Rattle.plain_tree.specs.Plain.{tree_of}
use Rattle.plain_tree.proofs.tree.PlainTree.listing.Given as goal

abbrev pub invariant-links : goal.invariant-links
invariant-links l =
    l.lines.items ++ filter_map (ls_line (tree_of l.self)) (drop l.link-index l.link-items) ≡ listing (tree_of l.self) l.dir
