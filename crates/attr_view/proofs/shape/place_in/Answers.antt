use Rattle.std.proofs.Common.{◌≡◌, suc, ◌+◌, ap, ◌∙◌, arith}
use Rattle.ntfs_def.specs.Attribute.{attribute_len, attribute_place}
use Rattle.ntfs_def.proofs.PlaceLaws.{attribute_place-bounded}
use Rattle.attr_view.proofs.shape.place_in.Goals as goal

pub loop-k-preserved : goal.loop-k-preserved
loop-k-preserved c =
    let block = c.args.block.now in
    let next : suc c.loop-k.k ≡ c.loop-k.k + 1 = omega arith in
    ap (λ n. c.loop-k.at + n) c.u32_at.ensures
    ∙ ap (λ p. p + attribute_len block p) c.loop-k.invariant
    ∙ ap (attribute_place block) next

pub returns-clause-low : goal.returns-clause-low
returns-clause-low c =
    let bounds = attribute_place-bounded c.args.block.now _ c.args.i c.requires.shape c.requires.within in
    let end : c.loop-k.k ≡ c.args.i = omega arith in
    omega (arith, bounds.low, c.loop-k.invariant, ap (attribute_place c.args.block.now) end)
