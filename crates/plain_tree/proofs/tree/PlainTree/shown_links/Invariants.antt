use Rattle.std.proofs.Common.{◌≡◌, ◌≤◌, [], drop, filter, length, map}
use Rattle.tree_model.specs.Answers.{path_above, shown_link}
use Rattle.list_laws.specs.Ordered.{put_all}
use Rattle.plain_tree.specs.Plain.{tree_of}
use Rattle.tree_model.specs.Tree.{leads_to}
use Rattle.plain_tree.proofs.tree.PlainTree.shown_links.Given as goal

abbrev pub invariant-links : goal.invariant-links
invariant-links l =
    (l.left ≤ length l.links)
    × (l.lines.items ≡ put_all path_above (map (shown_link (tree_of l.self)) (filter (leads_to l.file) (drop l.left l.links))) [])

abbrev pub decreases-links : goal.decreases-links
decreases-links l = l.left
