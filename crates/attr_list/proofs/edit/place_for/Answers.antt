use Rattle.std.proofs.Common.{◌≡◌, ◌+◌, ap, sym, subst, ◌∙◌, true, false}
use Rattle.std.specs.Ordering.{is_gt}
use Rattle.ntfs_def.specs.AttributeList.{list_entry_at}
use Rattle.ntfs_def.specs.KeyOrder.{fold_of}
use Rattle.ntfs_def.specs.ListOrder.{entry_order}
use Rattle.attr_list.specs.View.{entry_shown}
use Rattle.attr_list.proofs.PlaceLaws.{IsPassed, passed-one, place-end, place-here}
use Rattle.attr_list.proofs.edit.place_for.Goals as goal

pub loop-at-preserved : goal.loop-at-preserved
loop-at-preserved c =
    let fold = fold_of c.args.upcase.now in
    let entry = entry_shown c.args.entry in
    let order : is_gt (entry_order fold (list_entry_at c.args.list.now c.loop-at.at) entry) ≡ false =
    ap (λ listed. is_gt (entry_order fold listed entry)) (sym c.entry_view.ensures) ∙ ap is_gt (sym c.compare.ensures)
    ∙ sym c.is_gt.ensures ∙ c.if-is_gt.false in
    subst (λ n. IsPassed fold c.args.list.now entry (c.loop-at.at + n)) (sym c.u16_at.ensures)
    (passed-one fold c.args.list.now entry c.requires c.loop-at.at c.loop-at.invariant c.loop-at-test.true order)

pub returns-after-loop-at : goal.returns-after-loop-at
returns-after-loop-at c =
    let passed = c.loop-at.invariant in
    (passed.i, place-end _ c.args.list.now (entry_shown c.args.entry) c.requires c.loop-at.at passed c.loop-at-test.false, passed.place)

pub returns-then-is_gt : goal.returns-then-is_gt
returns-then-is_gt c =
    let passed = c.loop-at.invariant in
    let fold = fold_of c.args.upcase.now in
    let entry = entry_shown c.args.entry in
    let order : is_gt (entry_order fold (list_entry_at c.args.list.now c.loop-at.at) entry) ≡ true =
    ap (λ listed. is_gt (entry_order fold listed entry)) (sym c.entry_view.ensures) ∙ ap is_gt (sym c.compare.ensures)
    ∙ sym c.is_gt.ensures ∙ c.if-is_gt.true in
    (passed.i, place-here fold c.args.list.now entry c.requires c.loop-at.at passed order c.loop-at-test.true, passed.place)
