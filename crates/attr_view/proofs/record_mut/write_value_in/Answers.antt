use Rattle.std.proofs.Common.{◌≡◌, ◌+◌, ◌≤◌, ap, arith, length, subst, ◌∙◌}
use Rattle.ntfs_def.specs.Attribute.{attribute_place, value_offset}
use Rattle.ntfs_def.proofs.ShapeLaws.{header_failing-length}
use Rattle.attr_view.specs.Values.{PutsBytes}
use Rattle.attr_view.proofs.ValueLaws.{WritesValue-put, written-inside}
use Rattle.attr_view.proofs.record_mut.write_value_in.Goals as goal

pub put_bytes-requires : goal.put_bytes-requires
put_bytes-requires c =
    let r = c.requires in
    let place = c.place_in-place.ensures.place in
    let offset = c.u16_at.ensures ∙ ap (value_offset c.args.block.now) place in
    omega (arith, place, offset, written-inside c.args.block.now c.args.from.now _ c.args.i c.args.at r.shape r.within r.inside)

pub overflow_add-value-2 : goal.overflow_add-value-2
overflow_add-value-2 c =
    let r = c.requires in
    let place = c.place_in-place.ensures.place in
    let offset = c.u16_at.ensures ∙ ap (value_offset c.args.block.now) place in
    let inside = written-inside c.args.block.now c.args.from.now _ c.args.i c.args.at r.shape r.within r.inside in
    omega (arith, place, offset, inside, header_failing-length c.args.block.now r.shape.header)

pub returns : goal.returns
returns c =
    let r = c.requires in
    let place = c.place_in-place.ensures.place in
    let offset = c.u16_at.ensures ∙ ap (value_offset c.args.block.now) place in
    let old = c.args.block.now in
    let at : c.place_in-place.result + c.u16_at.result + c.args.at
    ≡ attribute_place old c.args.i + (value_offset old (attribute_place old c.args.i) + c.args.at) = omega (arith, place, offset) in
    WritesValue-put old _ c.args.from.now _ c.args.i c.args.at r.shape r.within r.inside
    (subst (PutsBytes old c.put_bytes.new.block c.args.from.now) at c.put_bytes.ensures)
