use Rattle.std.specs.Prelude.{IsTrue}
use Rattle.std.proofs.Common.{slice_range, ◌+◌, arith, ap, sym, ◌∙◌, subst}
use Rattle.ntfs_def.specs.Node.{Entry, is_one_entry, item_in}
use Rattle.index_node.specs.Lent.{child_said}
use Rattle.index_node.proofs.NodeLaws.{child_said-own, entry-own, item_in-own}
use Rattle.index_node.proofs.PlaceLaws.{entry_there, key_there, there}
use Rattle.index_node.proofs.Place.entry.Goals as goal

pub entry_len-requires : goal.entry_len-requires
entry_len-requires c =
    let place = c.args.self.now in
    let inside = place.view.inside in
    let whole = there place in
    omega (arith, whole.header, inside)

pub slice_bounds-result-end : goal.slice_bounds-result-end
slice_bounds-result-end c =
    let place = c.args.self.now in
    let inside = place.view.inside in
    let whole = there place in
    omega (arith, whole.inside, inside, c.entry_len.ensures)

pub returns-clause-item : goal.returns-clause-item
returns-clause-item c = λ d.
    let place = c.args.self.now in
    let view = place.view in
    ap (λ n. item_in (slice_range view.node.now place.at (place.at + n))) c.entry_len.ensures
    ∙ item_in-own view.node.now view.children view.end place.at (there place)
    ∙ ap (λ (e : Entry). e.item) (entry_there place c.requires d)

pub returns-clause-child : goal.returns-clause-child
returns-clause-child c = λ d.
    let place = c.args.self.now in
    let view = place.view in
    ap (λ n. child_said (slice_range view.node.now place.at (place.at + n))) c.entry_len.ensures
    ∙ child_said-own view.node.now view.children view.end place.at (there place)
    ∙ ap (λ (e : Entry). e.child) (entry_there place c.requires d)

pub returns-clause-own : goal.returns-clause-own
returns-clause-own c =
    let place = c.args.self.now in
    let view = place.view in
    subst (λ b. IsTrue (is_one_entry view.form b (slice_range view.node.now place.at (place.at + c.entry_len.result)))) view.flag
    (subst (λ n. IsTrue (is_one_entry view.form view.children (slice_range view.node.now place.at (place.at + n))))
    (sym c.entry_len.ensures)
    (entry-own view.form view.node.now view.children view.end place.at (key_there place c.requires) view.inside))
