use Rattle.std.proofs.Common.{◌≡◌, ℕ, Option, not, is_some, sym, ap, ◌∙◌}
use Rattle.ntfs_def.specs.Node.{Node, child_from, whole_of}
use Rattle.list_laws.proofs.OptionLaws.{some_same}
use Rattle.index_node.specs.View.{node_of_view}
use Rattle.index_puts.proofs.RootLaws.{child_from-end, flip}
use Rattle.index_takes.proofs.root.is_leaf.Goals as goal

pub returns-in-Ok : goal.returns-in-Ok
returns-in-Ok c = λ said is.
    let view = c.in-Ok.node in
    let here = node_of_view view in
    let same : here ≡ said = some_same (sym (ap whole_of c.in-Ok.ensures.ok) ∙ is) in
    let last : c.child.result ≡ said.last =
    c.child.ensures ∙ ap (child_from here.entries here.last) c.entries.ensures ∙ child_from-end here.entries here.last
    ∙ ap (λ (n : Node). n.last) same in
    flip (is_some c.child.result) c.is_none.result c.is_none.ensures ∙ ap (λ (o : Option ℕ). not (is_some o)) last
