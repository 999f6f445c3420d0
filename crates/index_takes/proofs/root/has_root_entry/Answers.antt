use Rattle.std.proofs.Common.{◌∙◌}
use Rattle.index_puts.proofs.HeldLaws.{has-index}
use Rattle.index_takes.proofs.RootLaws.{root-entry}
use Rattle.index_takes.proofs.root.has_root_entry.Goals as goal

pub returns-in_default : goal.returns-in_default
returns-in_default c = λ view items held.
    absurd (has-index view c.args.dir.now c.args.upcase items held c.in_default.ensures.none)

pub returns : goal.returns
returns c = λ view items held.
    c.can_go.ensures
    ∙ root-entry view c.args.dir.now c.args.upcase items held c.args.key.now c.in-Some.index c.in-Some.ensures.found c.in-Some.ensures.name
    c.is_leaf-leaf.result c.has_list.result c.hits_root-hit.result c.is_leaf-leaf.ensures c.has_list.ensures c.hits_root-hit.ensures
