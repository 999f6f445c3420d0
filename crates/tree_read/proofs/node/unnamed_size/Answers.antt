use Rattle.std.proofs.Common.{◌≡◌, [], rules, subst}
use Rattle.sparse_io.specs.Held.{IsStreamIfThere}
use Rattle.tree_read.proofs.NodeLaws.{held-with}
use Rattle.tree_read.proofs.StreamLaws.{size-none, size-some}
use Rattle.tree_read.proofs.node.unnamed_size.Goals as goal

pub returns-in-Ok-None : goal.returns-in-Ok-None
returns-in-Ok-None c = λ view n case.
    let held = c.args.held.now in
    let name = c.from_vec-unnamed.result in
    let unnamed : name ≡ [] = search rules in
    size-none view held n name unnamed (subst (IsStreamIfThere view held.parts name) c.in-Ok-None.field-0-is
    (c.in-Ok-None.ensures.found view (held-with view held n c.args.upcase.now case)))

pub returns-in-Ok-Some : goal.returns-in-Ok-Some
returns-in-Ok-Some c = λ view n case.
    let held = c.args.held.now in
    let name = c.from_vec-unnamed.result in
    let unnamed : name ≡ [] = search rules in
    size-some view held n name c.in-Ok-Some.found unnamed (subst (IsStreamIfThere view held.parts name) c.in-Ok-Some.field-0-is
    (c.in-Ok-Some.ensures.found view (held-with view held n c.args.upcase.now case)))
