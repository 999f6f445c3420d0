use Rattle.std.proofs.Common.{arith, subst}
use Rattle.attr_view.specs.Sizes.{PutsSizes}
use Rattle.attr_view.proofs.SizeLaws.{SetsSizes-put, extent-of, sizes-inside}
use Rattle.attr_view.proofs.record_mut.set_sizes_in.Goals as goal

pub put_sizes-requires : goal.put_sizes-requires
put_sizes-requires c =
    let r = c.requires in
    let old = c.args.block.now in
    omega (arith, sizes-inside old _ c.args.i r.shape r.within (extent-of old _ r.extent), c.place_in-place.ensures.place)

pub returns : goal.returns
returns c =
    let r = c.requires in
    let old = c.args.block.now in
    SetsSizes-put old _ _ c.args.i c.args.real c.args.initialized r.shape r.within (extent-of old _ r.extent)
    (subst (λ at. PutsSizes old c.put_sizes.new.block at c.args.real c.args.initialized) c.place_in-place.ensures.place c.put_sizes.ensures)
