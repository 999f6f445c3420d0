use Rattle.std.proofs.Common.{◌≡◌, ◌+◌, ◌≤◌, count_by, drop}
use Rattle.tree_model.specs.Answers.{shown_link_count}
use Rattle.plain_tree.specs.Plain.{tree_of}
use Rattle.tree_model.specs.Tree.{names_file}
use Rattle.plain_tree.proofs.tree.PlainTree.shown_link_count.Given as goal

abbrev pub invariant-links : goal.invariant-links
invariant-links l =
    (l.count + count_by (names_file l.file) (drop l.link-index l.self.links.items)
    ≡ shown_link_count (tree_of l.self) l.file)
    × (l.count ≤ l.link-index)
