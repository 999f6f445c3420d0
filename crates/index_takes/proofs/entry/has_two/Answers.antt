use Rattle.std.proofs.Common.{◌≡◌, length, sym, ap, ◌∙◌}
use Rattle.std.specs.Prelude.{nat_le}
use Rattle.ntfs_def.specs.Node.{Node, whole_of}
use Rattle.index_node.specs.View.{node_of_view}
use Rattle.list_laws.proofs.OptionLaws.{some_same}
use Rattle.index_takes.proofs.entry.has_two.Goals as goal

pub returns : goal.returns
returns c = λ said is.
    let same : node_of_view c.in-Ok.node ≡ said = some_same (sym (ap whole_of c.in-Ok.ensures.ok) ∙ is) in
    ap (nat_le 2) (c.entries.ensures ∙ ap (λ (n : Node). length n.entries) same)
