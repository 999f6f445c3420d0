use Rattle.std.proofs.Common.{◌≡◌, ap, subst, ◌∙◌}
use Rattle.ntfs_def.specs.Attribute.{attribute_len}
use Rattle.attr_view.specs.Edit.{IsRemovedAt}
use Rattle.attr_view.proofs.RemoveLaws.{Removes-removed}
use Rattle.attr_view.proofs.record_mut.remove_in.Goals as goal

pub returns : goal.returns
returns c =
    let place = c.place_in-at.ensures.place in
    let len = c.u32_at-len.ensures ∙ ap (attribute_len c.args.block.now) place in
    let moved = subst (λ at. IsRemovedAt c.args.block.now c.remove_bytes.new.block at c.u32_at-len.result) place c.remove_bytes.ensures in
    Removes-removed c.args.block.now _ _ c.args.i c.requires.shape c.requires.within
    (subst (IsRemovedAt c.args.block.now c.remove_bytes.new.block _) len moved)
