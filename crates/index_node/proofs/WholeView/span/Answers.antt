use Rattle.std.proofs.Common.{◌+◌, ◌≤◌, length, ap, subst, ◌∙◌, arith}
use Rattle.ntfs_def.specs.Node.{entry_place}
use Rattle.index_node.proofs.PlaceLaws.{there}
use Rattle.index_node.proofs.SpanLaws.{count_is, span_is}
use Rattle.index_node.proofs.WholeView.span.Goals as goal

pub place-last-requires : goal.place-last-requires
place-last-requires c = let e = count_is c.args.self.now.view in omega (arith, e)

pub entry_len-requires : goal.entry_len-requires
entry_len-requires c =
    let p = c.place-at.result in
    let w = there p in
    let i = p.view.inside in
    subst (λ v. p.at + 16 ≤ length v.node.now) c.place-at.ensures.view (omega (arith, w.header, i))

pub entry_len-requires-2 : goal.entry_len-requires-2
entry_len-requires-2 c =
    let p = c.place-last.result in
    let w = there p in
    let i = p.view.inside in
    subst (λ v. p.at + 16 ≤ length v.node.now) c.place-last.ensures.view (omega (arith, w.header, i))

pub returns : goal.returns
returns c =
    let w = c.args.self.now in
    let v = w.view in
    let p = c.place-at.result in
    let q = c.place-last.result in
    let n = count_is v in
    span_is w c.args.i p.at (p.at + c.entry_len.result) (q.at + c.entry_len-2.result) (omega (arith, n, c.requires))
    (p.stands ∙ ap (λ k. entry_place p.view.node.now p.view.first k) c.place-at.ensures.number ∙ ap (λ x. entry_place x.node.now
    x.first c.args.i) c.place-at.ensures.view)
    (ap (λ k. p.at + k) c.entry_len.ensures)
    q.at
    (q.stands ∙ ap (λ k. entry_place q.view.node.now q.view.first k) c.place-last.ensures.number ∙ ap (λ x. entry_place x.node.now
    x.first v.count) c.place-last.ensures.view)
    (ap (λ k. q.at + k) c.entry_len-2.ensures)
