use Rattle.std.proofs.Common.{arith}
use Rattle.volume_format.proofs.ItemSectors.{item_sector-filled}
use Rattle.volume_format.proofs.item.fill.Goals as goal

pub returns : goal.returns
returns g c =
    item_sector-filled (g.I.Item.rule c.args.item.now) c.args.k c.loop-i.into c.loop-i.invariant.len
    (λ j lt. c.loop-i.invariant.filled j (omega arith))
