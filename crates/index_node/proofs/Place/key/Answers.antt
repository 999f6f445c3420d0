use Rattle.std.proofs.Common.{slice_range, ◌+◌, arith, ap, sym, ◌∙◌}
use Rattle.ntfs_def.specs.Node.{Entry}
use Rattle.index_node.proofs.NodeLaws.{item_key}
use Rattle.index_node.proofs.PlaceLaws.{entry_there, there}
use Rattle.index_node.proofs.Place.key.Goals as goal

pub overflow_add-from : goal.overflow_add-from
overflow_add-from c =
    let place = c.args.self.now in
    let whole = there place in
    omega (arith, whole.header, place.view.short)

pub key_len-requires : goal.key_len-requires
key_len-requires c =
    let place = c.args.self.now in
    let whole = there place in
    omega (arith, whole.header, place.view.inside)

pub overflow_add-result : goal.overflow_add-result
overflow_add-result c =
    let place = c.args.self.now in
    let whole = there place in
    omega (arith, whole.header, whole.holds, whole.inside, place.view.short, c.key_len.ensures)

pub slice_bounds-result-end : goal.slice_bounds-result-end
slice_bounds-result-end c =
    let place = c.args.self.now in
    let whole = there place in
    omega (arith, whole.holds, whole.inside, place.view.inside, c.key_len.ensures)

pub returns : goal.returns
returns c = λ d.
    let place = c.args.self.now in
    let view = place.view in
    ap (λ n. slice_range view.node.now (place.at + 16) (place.at + 16 + n)) c.key_len.ensures
    ∙ sym (item_key view.node.now view.children place.at)
    ∙ ap (λ (e : Entry). e.item.key) (entry_there place c.requires d)
