use Rattle.std.proofs.Common.{◌+◌, ◌-◌, Some, arith, ap, sym, ◌∙◌}
use Rattle.vol_bytes.specs.Field.{u64_at}
use Rattle.index_node.proofs.NodeLaws.{child_at-none, child_at-some}
use Rattle.index_node.proofs.PlaceLaws.{child_there, there}
use Rattle.index_node.proofs.Place.child.Goals as goal

pub entry_len-requires : goal.entry_len-requires
entry_len-requires c =
    let place = c.args.self.now in
    let whole = there place in
    omega (arith, whole.header, place.view.inside)

pub overflow_sub-end : goal.overflow_sub-end
overflow_sub-end c =
    let place = c.args.self.now in
    let whole = there place in
    omega (arith, whole.holds, c.entry_len.ensures)

pub u64_at-requires : goal.u64_at-requires
u64_at-requires c =
    let place = c.args.self.now in
    let whole = there place in
    omega (arith, whole.holds, whole.inside, place.view.inside, c.entry_len.ensures)

pub returns-then-not-self : goal.returns-then-not-self
returns-then-not-self c =
    let place = c.args.self.now in
    let view = place.view in
    sym (child_at-none view.node.now view.children place.at c.if-not-self.true) ∙ child_there place

pub returns : goal.returns
returns c =
    let place = c.args.self.now in
    let view = place.view in
    ap (λ n. Some n) c.u64_at.ensures
    ∙ ap (λ n. Some (u64_at view.node.now (place.at + n - 8))) c.entry_len.ensures
    ∙ sym (child_at-some view.node.now view.children place.at c.if-not-self.false)
    ∙ child_there place
