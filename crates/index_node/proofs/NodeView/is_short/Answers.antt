use Rattle.std.proofs.Common.{◌≡◌, ◌≤◌, ◌<◌, ◌+◌, ◌-◌, suc, arith, add-one, ap, sym, ◌∙◌}
use Rattle.std.specs.Prelude.{nat_le}
use Rattle.ntfs_def.specs.Node.{are_short_from, child_len, entry_len}
use Rattle.index_node.proofs.NodeLaws.{are_short-is, entry_place-next, length-entries_from, place_whole, short_next, short_stop}
use Rattle.index_node.specs.View.{node_of_view}
use Rattle.index_node.proofs.NodeView.is_short.Goals as goal

pub overflow_add-at : goal.overflow_add-at
overflow_add-at c =
    let view = c.args.self.now in
    let w = place_whole view.form view.node.now view.children view.end view.first view.count view.each view.last c.loop-k.k (omega arith) in
    omega (arith, w.header, view.short, c.loop-k.invariant.place)

pub entry_len-len-requires : goal.entry_len-len-requires
entry_len-len-requires c =
    let view = c.args.self.now in
    let w = place_whole view.form view.node.now view.children view.end view.first view.count view.each view.last c.loop-k.k (omega arith) in
    let i = view.inside in
    omega (arith, w.header, c.loop-k.invariant.place)

pub returns-then-len-most : goal.returns-then-len-most
unfolding node_of_view
returns-then-len-most c =
    let view = c.args.self.now in
    let node = view.node.now in
    let most = 632 + c.child_len-most.result in
    let long : most < entry_len node c.loop-k.at = omega (arith, c.entry_len-len.ensures, c.if-len-most.true) in
    sym (short_stop node most c.loop-k.at (view.count - c.loop-k.k) long)
    ∙ c.loop-k.invariant.short
    ∙ are_short-is node _ view.count most view.first (sym (length-entries_from node view.children view.first view.count))
    (ap (λ n. 632 + n) (c.child_len-most.ensures ∙ ap child_len view.flag)) view.begins

pub loop-k-preserved : goal.loop-k-preserved
loop-k-preserved c =
    let view = c.args.self.now in
    let node = view.node.now in
    let most = 632 + c.child_len-most.result in
    let len = ap (entry_len node) c.loop-k.invariant.place in
    let next = entry_place-next node view.first c.loop-k.k in
    let short : entry_len node c.loop-k.at ≤ most = omega (arith, c.entry_len-len.ensures, c.if-len-most.false) in
    let left : view.count - c.loop-k.k ≡ suc (view.count - (c.loop-k.k + 1)) = omega arith in
    record {
      place = rw add-one (omega (arith, c.loop-k.invariant.place, len, c.entry_len-len.ensures, next));
      short =
          ap (λ n. are_short_from node most (c.loop-k.at + n) (view.count - (c.loop-k.k + 1))) c.entry_len-len.ensures
          ∙ sym (short_next node most c.loop-k.at (view.count - (c.loop-k.k + 1)) short)
          ∙ ap (are_short_from node most c.loop-k.at) (sym left)
          ∙ c.loop-k.invariant.short;
    }

pub entry_len-requires : goal.entry_len-requires
entry_len-requires c =
    let view = c.args.self.now in
    let w = place_whole view.form view.node.now view.children view.end view.first view.count view.each view.last c.loop-k.k (omega arith) in
    let i = view.inside in
    omega (arith, w.header, c.loop-k.invariant.place)

pub returns : goal.returns
unfolding node_of_view
returns c =
    let view = c.args.self.now in
    let node = view.node.now in
    let most = 632 + c.child_len-most.result in
    let done : view.count - c.loop-k.k ≡ 0 = omega arith in
    ap (λ n. nat_le n most) c.entry_len.ensures
    ∙ ap (are_short_from node most c.loop-k.at) (sym done)
    ∙ c.loop-k.invariant.short
    ∙ are_short-is node _ view.count most view.first (sym (length-entries_from node view.children view.first view.count))
    (ap (λ n. 632 + n) (c.child_len-most.ensures ∙ ap child_len view.flag)) view.begins
