use Rattle.std.proofs.Common.{sym, ap, ◌∙◌}
use Rattle.ntfs_def.specs.Node.{Node, child_from, whole_of}
use Rattle.list_laws.proofs.OptionLaws.{some_same}
use Rattle.index_node.specs.View.{node_of_view}
use Rattle.index_puts.proofs.DepthLaws.{child_last}
use Rattle.index_puts.proofs.depth.last_child.Goals as goal

pub returns-in-Ok : goal.returns-in-Ok
returns-in-Ok c = λ said is.
    let here = node_of_view c.in-Ok.view in
    c.child.ensures ∙ ap (child_from here.entries here.last) c.entries.ensures ∙ child_last here.entries here.last
    ∙ ap (λ (n : Node). n.last) (some_same (sym (ap whole_of c.in-Ok.ensures.ok) ∙ is))
